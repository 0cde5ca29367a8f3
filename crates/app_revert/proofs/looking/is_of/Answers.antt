use Rattle.undo_plans.specs.Requests.{meant}
use Rattle.app_revert.proofs.Records.{is_of_by, is_of_none}
use Rattle.app_revert.proofs.looking.is_of.Goals as goal

pub returns-in-Some : goal.returns-in-Some
returns-in-Some c =
    is_of_by c.args.key c.key.result (meant c.args.request.now) c.in-Some.op c.is_same_key.result c.in-Some.ensures.some c.is_same_key.ensures c.key.ensures

pub returns-in-None : goal.returns-in-None
returns-in-None c = is_of_none c.args.key (meant c.args.request.now) c.in-None.ensures.none
