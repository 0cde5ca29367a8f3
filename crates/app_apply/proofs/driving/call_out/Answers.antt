use Rattle.model_lab.specs.Meaning.{lab_names}
use Rattle.model_lab.specs.ManagerSteps.{board_plans, called}
use Rattle.bmc_ports.specs.Conversation.{links}
use Rattle.bmc_ports.specs.Observing.{permit_at}
use Rattle.app_run.proofs.Courses.{seen_called, seen_uncalled}
use Rattle.app_run.proofs.Driving.{goes_on, rests}
use Rattle.app_apply.specs.Driven.{DrivesOut, call_for}
use Rattle.app_apply.proofs.driving.call_out.Goals as goal

pub returns-in-Ok-clause-goes : goal.returns-in-Ok-clause-goes
returns-in-Ok-clause-goes g c before shows =
    goes_on (DrivesOut c.args.agains c.args.turns) before c.call.new.manager c.drive_out.new.manager c.in-Ok.first c.drive_out.result _ _
    (called (board_plans lab_names) (call_for c.args.calling) before) (c.in-Ok.ensures lab_names before shows) (λ s shown. c.drive_out.ensures.drives s shown)

pub returns-in-Ok-clause-seen : goal.returns-in-Ok-clause-seen
returns-in-Ok-clause-seen g c =
    seen_called g.T.Observer.sees g.A.Link g.B.Link (call_for c.args.calling) c.args.manager.now c.call.new.manager c.drive_out.new.manager c.in-Ok.first
    (links c.args.ipmb.now c.args.smbus.now) (links c.drive_out.new.ipmb c.drive_out.new.smbus) (permit_at c.drive_out.result) c.args.watch.now c.drive_out.new.watch
    c.in-Ok.ensures c.drive_out.ensures.seen

pub returns-in-Err-clause-goes : goal.returns-in-Err-clause-goes
returns-in-Err-clause-goes g c before shows =
    rests (DrivesOut c.args.agains c.args.turns) before c.call.new.manager _ c.phase.result _ (called (board_plans lab_names) (call_for c.args.calling) before)
    (c.in-Err.ensures lab_names before shows) (λ s shown. c.phase.ensures lab_names s shown)

pub returns-in-Err-clause-seen : goal.returns-in-Err-clause-seen
returns-in-Err-clause-seen g c =
    seen_uncalled g.T.Observer.sees g.A.Link g.B.Link (call_for c.args.calling) c.args.manager.now c.call.new.manager c.in-Err.field-0 (links c.args.ipmb.now c.args.smbus.now)
    c.args.watch.now c.in-Err.ensures
