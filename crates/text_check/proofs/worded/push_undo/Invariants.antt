use Rattle.std.proofs.Common.{◌≤◌, drop, length, reverse, string_bytes, take}
use Rattle.std.specs.List.{enumerate_from}
use Rattle.text_check.specs.Telling.{Tells}
use Rattle.text_check.specs.Worded.{IsUndoLine}
use Rattle.text_check.proofs.Lined.{Say}
use Rattle.text_check.proofs.worded.push_undo.Given as goal

abbrev pub invariant-loop-place : goal.invariant-loop-place
invariant-loop-place l =
    (l.place ≤ l.count) × (l.place ≤ length l.requests.members)
    × Tells (Say (IsUndoLine l.name) (reverse (drop l.place (take l.count (enumerate_from 0 l.requests.members))))) (string_bytes l.fn.text) (string_bytes l.text)

abbrev pub decreases-loop-place : goal.decreases-loop-place
decreases-loop-place l = l.place
