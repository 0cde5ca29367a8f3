use Rattle.undo_plans.proofs.Keeping.{attribute_kept}
use Rattle.undo_plans.proofs.owned_op.OwnedOp.of.Goals as goal

pub returns-in-BiosAttribute : goal.returns-in-BiosAttribute
returns-in-BiosAttribute c = attribute_kept c.args.from c.in-BiosAttribute.set c.args.op.now c.as_slice.result.now c.in-BiosAttribute.is c.as_slice.ensures.value
