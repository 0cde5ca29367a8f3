use Rattle.std.proofs.Common.{◌≤◌, length, string_bytes}
use Rattle.text_lines.proofs.UndoLists.{Pushed}
use Rattle.text_lines.proofs.undo_text.push_requests.Given as goal

abbrev pub invariant-loop-place : goal.invariant-loop-place
invariant-loop-place l = record {
  low : l.place ≤ length l.requests.members;
  pushed : Pushed l.requests.members l.place (string_bytes l.fn.text) (string_bytes l.text);
}

abbrev pub decreases-loop-place : goal.decreases-loop-place
decreases-loop-place l = l.place
