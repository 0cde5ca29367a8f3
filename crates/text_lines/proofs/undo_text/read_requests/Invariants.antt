use Rattle.std.proofs.Common.{◌≡◌, ◌≤◌, length, None}
use denote.Text.{Utf8}
use denote.Shadow.{shadow}
use Rattle.text_lines.proofs.UndoLists.{Begun}
use Rattle.text_lines.proofs.undo_text.read_requests.Given as goal

abbrev pub invariant-loop-rest : goal.invariant-loop-rest
invariant-loop-rest l = shadow (Utf8 l.rest) × Begun l.text l.requests.members l.rest × (length l.requests.members ≤ 256) × (l.requests.waiting ≡ None)

abbrev pub decreases-loop-rest : goal.decreases-loop-rest
decreases-loop-rest l = length l.rest
