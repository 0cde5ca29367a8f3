use Rattle.std.proofs.Common.{Ok}
use Rattle.model_undo.specs.declared.call.Call.TheVariants.{Undo}
use Rattle.model_lab.specs.Meaning.{lab_names}
use Rattle.model_lab.specs.ManagerSteps.{board_plans, called}
use Rattle.app_run.specs.Driven.{DrivesAgain}
use Rattle.app_run.proofs.Driving.{goes_on, rests}
use Rattle.app_run.proofs.driven.undo_plan.Goals as goal

pub returns-in-Ok : goal.returns-in-Ok
returns-in-Ok g c before shows =
    goes_on (DrivesAgain 0 c.args.turns) before c.undo.new.self c.drive.new.manager c.in-Ok.first (Ok c.drive.result) _ _ (called (board_plans lab_names) Undo before)
    (c.in-Ok.ensures lab_names before shows) (λ s shown. c.drive.ensures.drives lab_names s shown)

pub returns-in-Err : goal.returns-in-Err
returns-in-Err g c before shows =
    rests (DrivesAgain 0 c.args.turns) before c.undo.new.self _ c.phase.result _ (called (board_plans lab_names) Undo before) (c.in-Err.ensures lab_names before shows)
    (λ s shown. c.phase.ensures lab_names s shown)
