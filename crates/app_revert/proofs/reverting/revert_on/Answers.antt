use Rattle.std.proofs.Common.{inr, refl}
use Rattle.app_run.specs.Ends.{PrintsNothing}
use Rattle.app_run.proofs.Telling.{says_memory}
use Rattle.app_revert.proofs.reverting.revert_on.Goals as goal

pub returns-in-Err-clause-ends : goal.returns-in-Err-clause-ends
returns-in-Err-clause-ends g c =
    inr (refl, inr (says_memory g.W.Write.contents g.E.Write.contents PrintsNothing c.args.console.now c.end_run.new.console c.end_run.result c.end_run.ensures))
