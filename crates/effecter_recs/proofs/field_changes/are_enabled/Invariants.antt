use Rattle.std.proofs.Common.{◌≡◌, drop}
use Rattle.effecter_recs.specs.FieldChanges.{are_enabled}
use Rattle.effecter_recs.proofs.field_changes.are_enabled.Given as goal

abbrev pub invariant-loop-change : goal.invariant-loop-change
invariant-loop-change l = are_enabled l.changes l.shown ≡ are_enabled (drop l.change-index l.changes) l.rest
