use Rattle.std.proofs.Common.{◌≤◌, ◌*◌, ◌+◌, ◌^◌}
use Rattle.text_journal.proofs.room.journal_growth.Given as goal

abbrev pub invariant-loop-place : goal.invariant-loop-place
invariant-loop-place l = l.growth ≤ 2 ^ 12 * (l.place + 1)
