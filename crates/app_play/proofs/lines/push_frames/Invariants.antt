use Rattle.std.proofs.Common.{◌≡◌, ◌++◌, take, string_bytes}
use Rattle.std.specs.List.{flat_map}
use Rattle.text_lines.specs.Cuts.{ended}
use Rattle.app_play.specs.Lines.{frame_lines}
use Rattle.app_play.proofs.lines.push_frames.Given as goal

abbrev pub invariant-loop-number : goal.invariant-loop-number
invariant-loop-number l = string_bytes l.text ≡ string_bytes l.fn.text ++ flat_map ended (frame_lines (take l.number l.frames))
