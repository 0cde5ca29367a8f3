use Rattle.std.proofs.Common.{◌≡◌, ◌++◌, length, drop}
use Rattle.effecter_recs.specs.FieldChanges.{changed_states}
use Rattle.effecter_recs.proofs.field_changes.changed_states.Given as goal

abbrev pub invariant-loop-change : goal.invariant-loop-change
invariant-loop-change l = record {
  long : length l.states ≡ l.change-index;
  made : l.states ++ changed_states (drop l.change-index l.changes) l.rest ≡ changed_states l.changes l.old;
}
