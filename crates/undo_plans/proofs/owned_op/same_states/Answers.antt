use Rattle.undo_plans.proofs.Keeping.{same_states}
use Rattle.undo_plans.proofs.owned_op.same_states.Goals as goal

pub returns : goal.returns
returns c = same_states c.args.set.now.effecter c.copy.result c.args.set.now.changes _ c.args.set.now.few c.copy.ensures
