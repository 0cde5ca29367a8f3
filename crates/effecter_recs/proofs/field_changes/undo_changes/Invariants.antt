use Rattle.std.proofs.Common.{◌≡◌, ◌++◌, length, drop}
use Rattle.effecter_recs.specs.FieldChanges.{undo_changes}
use Rattle.effecter_recs.proofs.field_changes.undo_changes.Given as goal

abbrev pub invariant-loop-change : goal.invariant-loop-change
invariant-loop-change l = record {
  long : length l.undone ≡ l.change-index;
  made : l.undone ++ undo_changes (drop l.change-index l.changes) l.rest ≡ undo_changes l.changes l.shown;
}
