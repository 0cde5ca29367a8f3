use Rattle.std.proofs.Common.{◌-◌}
use Rattle.app_revert.proofs.Eyes.{LooksFrom}
use Rattle.app_revert.proofs.looking.look_at.Given as goal

abbrev pub invariant-loop : goal.invariant-loop
invariant-loop l = LooksFrom l.agains l.key l.fn.eye (l.agains - l.counter) l.end l.eye
