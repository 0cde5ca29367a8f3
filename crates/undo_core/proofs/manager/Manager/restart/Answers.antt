use Rattle.std.proofs.Common.{subst}
use Rattle.undo_core.specs.Placed.{IsPlaced}
use Rattle.undo_core.proofs.manager.Manager.restart.Goals as goal

pub invariant_of-self-in-Undoes-1-clause-placed : goal.invariant_of-self-in-Undoes-1-clause-placed
invariant_of-self-in-Undoes-1-clause-placed c = subst (IsPlaced c.args.self.now.steps c.args.self.now.undo.requests) c.in-Opened.is c.args.self.now.placed
