use Rattle.std.proofs.Common.{◌≤◌, ◌++◌, ◌-◌, length, codes, string_bytes}
use Rattle.text_lines.specs.Cuts.{ended}
use Rattle.text_journal.specs.JournalLines.{number_line, IsRequestLine}
use Rattle.text_journal.specs.Written.{request_line}
use Rattle.text_journal.proofs.Pushing.{Pushed}
use Rattle.text_journal.proofs.writing.push_undo.Given as goal

abbrev pub invariant-loop-place : goal.invariant-loop-place
invariant-loop-place l =
    (l.place ≤ length l.requests.members) × Pushed request_line (λ asked. IsRequestLine (request_line asked) asked) l.requests.members l.place (string_bytes l.fn.text ++ ended (number_line (codes "undo ") (length l.requests.members))) (string_bytes l.text)

abbrev pub decreases-loop-place : goal.decreases-loop-place
decreases-loop-place l = l.count - l.place
