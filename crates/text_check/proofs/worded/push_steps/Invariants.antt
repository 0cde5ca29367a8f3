use Rattle.std.proofs.Common.{◌≤◌, ◌-◌, length, string_bytes, take}
use Rattle.std.specs.List.{enumerate_from}
use Rattle.text_check.specs.Telling.{Tells}
use Rattle.text_check.specs.Worded.{IsStepLine}
use Rattle.text_check.proofs.Lined.{Say}
use Rattle.text_check.proofs.worded.push_steps.Given as goal

abbrev pub invariant-loop-place : goal.invariant-loop-place
invariant-loop-place l =
    (l.place ≤ length l.steps) × Tells (Say (IsStepLine l.name) (take l.place (enumerate_from 0 l.steps))) (string_bytes l.fn.text) (string_bytes l.text)

abbrev pub decreases-loop-place : goal.decreases-loop-place
decreases-loop-place l = l.count - l.place
