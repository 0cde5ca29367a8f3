use Rattle.std.proofs.Common.{string_bytes}
use Rattle.app_apply.proofs.Begun.{settled}
use Rattle.app_apply.proofs.applying.settle.Goals as goal

pub returns-clause-settles : goal.returns-clause-settles
returns-clause-settles g c =
    settled g.F.WritesFiles c.args.watch.now.keeper.beside.now c.args.reach.now.again c.in-Ok.revived c.call_on-end.new.manager (string_bytes c.args.watch.now.keeper.texts.now.last)
    (string_bytes c.call_on-end.new.watch.keeper.texts.now.last) c.args.watch.now.keeper.files.now c.call_on-end.new.watch.keeper.files.now c.call_on-end.result c.in-Ok.ensures.made
    c.call_on-end.ensures.keeps c.call_on-end.ensures.same_manager c.call_on-end.ensures.same_text c.call_on-end.ensures.same
