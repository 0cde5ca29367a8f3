use Rattle.undo_plans.specs.Journals.{kept_in}
use Rattle.lab_run.proofs.Restarts.{made_again}
use Rattle.lab_run.proofs.restart.revived.Goals as goal

pub returns-clause-remade : goal.returns-clause-remade
returns-clause-remade c =
    made_again c.args.manager.now (kept_in c.in-Ok.journal.contents) c.revive.result c.in-Ok.ensures c.revive.ensures.remade
