use Rattle.std.proofs.Common.{◌≤◌, ◌++◌, ◌-◌, length, codes, string_bytes}
use Rattle.text_lines.specs.Cuts.{ended}
use Rattle.text_journal.specs.JournalLines.{number_line, IsStepLine}
use Rattle.text_journal.specs.Written.{step_line}
use Rattle.text_journal.proofs.Pushing.{Pushed}
use Rattle.text_journal.proofs.writing.push_steps.Given as goal

abbrev pub invariant-loop-place : goal.invariant-loop-place
invariant-loop-place l =
    (l.place ≤ length l.steps) × Pushed step_line (λ op. IsStepLine (step_line op) op) l.steps l.place (string_bytes l.fn.text ++ ended (number_line (codes "steps ") (length l.steps))) (string_bytes l.text)

abbrev pub decreases-loop-place : goal.decreases-loop-place
decreases-loop-place l = l.count - l.place
