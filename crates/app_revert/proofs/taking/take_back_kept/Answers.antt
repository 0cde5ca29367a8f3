use Rattle.std.proofs.Common.{rules, string_bytes}
use Rattle.app_run.proofs.Ways.{carried}
use Rattle.app_revert.specs.Revert.{TakesBackFrom}
use Rattle.app_revert.proofs.taking.take_back_kept.Goals as goal

pub returns-clause-takes_back : goal.returns-clause-takes_back
returns-clause-takes_back g c =
    carried (λ files. TakesBackFrom g.F.WritesFiles c.args.beside.now c.args.reach.now.again c.args.manager.now c.take_back.new.manager c.take_back.result
    (string_bytes c.args.texts.now.last) c.args.files.now files) c.take_back.new.watch.keeper.files.now _
    (string_bytes c.take_back.new.watch.keeper.texts.now.last, c.take_back.ensures.takes_back) (search rules)
