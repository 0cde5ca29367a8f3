use Rattle.std.proofs.Common.{refl, ◌∙◌}
use Rattle.effecter_recs.specs.FieldChanges.{undo_changes}
use Rattle.effecter_recs.specs.ChangeLaws.{same_states}
use Rattle.effecter_recs.proofs.state.undo_states.Goals as goal

pub returns : goal.returns
returns c = same_states _ _ _ _ _ _ refl (c.undo_changes.ensures ∙ (λ i. undo_changes (c.as_slice.ensures.value i) (c.behind.ensures i)))
