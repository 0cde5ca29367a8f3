use Rattle.undo_look.specs.Looks.{begin_at, state_of}
use Rattle.app_look.proofs.Looking.{called_by, refused_by}
use Rattle.app_look.proofs.look_driver.begin.Goals as goal

pub returns-in-Ok : goal.returns-in-Ok
returns-in-Ok c = called_by c.args.looker.now c.begin.new.self c.in-Ok.sent (begin_at (state_of c.args.looker.now) c.args.target.now c.args.looker.now.stage) c.in-Ok.ensures

pub returns-in-Err : goal.returns-in-Err
returns-in-Err c = refused_by c.args.looker.now c.begin.new.self _ (begin_at (state_of c.args.looker.now) c.args.target.now c.args.looker.now.stage) c.in-Err.ensures
