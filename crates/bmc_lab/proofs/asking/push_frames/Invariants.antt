use Rattle.std.proofs.Common.{◌≡◌, ◌++◌, string_bytes, take}
use Rattle.std.specs.List.{flat_map}
use Rattle.bmc_lab.specs.Reply.{bytes_line}
use Rattle.bmc_lab.proofs.asking.push_frames.Given as goal

abbrev pub invariant-loop-frame : goal.invariant-loop-frame
invariant-loop-frame l = string_bytes l.text ≡ string_bytes l.fn.text ++ flat_map (bytes_line l.word) (take l.frame-index l.frames)
