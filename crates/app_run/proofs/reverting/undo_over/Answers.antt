use Rattle.std.proofs.Common.{inl, inr, refl}
use Rattle.app_run.proofs.reverting.undo_over.Goals as goal

pub returns-in-Ok-recall_on-clause-undoes : goal.returns-in-Ok-recall_on-clause-undoes
returns-in-Ok-recall_on-clause-undoes g c = inl (c.recall_on.new.manager, c.in-Ok-recall_on.end, c.in-Ok.ensures, refl, c.in-Ok-recall_on.ensures.runs)

pub returns-in-Ok-recall_on-clause-told : goal.returns-in-Ok-recall_on-clause-told
returns-in-Ok-recall_on-clause-told g c = inr (c.recall_on.new.manager, c.in-Ok-recall_on.ensures.told)
