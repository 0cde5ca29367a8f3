use Rattle.std.proofs.lemmas.Result.{on_ok_weaker}
use Rattle.undo_plans.specs.Requests.{meant}
use Rattle.app_revert.proofs.Eyes.{behind_all, no_doubt}
use Rattle.app_revert.proofs.looking.look_doubt.Goals as goal

pub returns-in-Some : goal.returns-in-Some
returns-in-Some c =
    on_ok_weaker c.look_once.result
    (behind_all c.args.agains c.args.list.now.members c.args.doubt.now.members c.len.result (meant c.in-Some.request) c.args.eye.now c.args.looked.now c.look_once.new.eye c.look_once.new.looked
    c.len.ensures.value c.requires c.in-Some.ensures.there) c.look_once.ensures

pub returns-in-None : goal.returns-in-None
returns-in-None c = no_doubt c.args.agains c.args.list.now.members c.args.doubt.now.members c.args.eye.now c.args.looked.now c.in-None.ensures.missing
