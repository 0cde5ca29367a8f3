use Rattle.std.proofs.Common.{◌≡◌, ◌++◌, drop}
use Rattle.shown_records.specs.Effecters.{after_states, changed_fields}
use Rattle.shown_records.proofs.effecters.states.Given as goal

abbrev pub invariant-loop-change : goal.invariant-loop-change
invariant-loop-change l = l.after.items ++ changed_fields (drop l.change-index l.op.changes) l.rest ≡ after_states l.op l.shown
