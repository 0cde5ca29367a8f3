use Rattle.app_apply.proofs.Untold.{untold_both}
use Rattle.app_apply.proofs.kept_calls.call_on.Goals as goal

pub returns-clause-untold : goal.returns-clause-untold
returns-clause-untold g c off =
    untold_both g.P.Write.contents c.args.watch.now.teller.progress.now c.call_over-end.new.watch.teller.progress.now c.end.new.self.teller.progress.now off
    c.call_over-end.ensures.untold c.end.ensures.ends
