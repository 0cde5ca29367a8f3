use Rattle.std.proofs.Common.{◌≡◌, ◌++◌, map, take}
use Rattle.lab_run.specs.FramesShown.{sent_as}
use Rattle.lab_run.proofs.frames.Frames.send.Given as goal

abbrev pub invariant-loop-frame : goal.invariant-loop-frame
invariant-loop-frame l = l.self ≡ l.initial.self ++ map (sent_as l.way l.mark) (take l.frame-index l.frames)
