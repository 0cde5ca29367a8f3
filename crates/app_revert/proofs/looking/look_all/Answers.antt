use Rattle.std.proofs.lemmas.Result.{on_ok_weaker}
use Rattle.app_revert.proofs.Eyes.{each_all}
use Rattle.app_revert.proofs.looking.look_all.Goals as goal

pub returns : goal.returns
returns c =
    on_ok_weaker c.look_doubt.result
    (each_all c.args.agains c.args.list.now.members c.args.doubt.now.members c.args.eye.now c.args.looked.now c.look_each.new.eye c.look_each.new.looked c.look_doubt.new.eye
    c.look_doubt.new.looked c.in_ok-look_each.ensures) c.look_doubt.ensures
