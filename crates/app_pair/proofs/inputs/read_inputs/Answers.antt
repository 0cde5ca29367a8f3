use Rattle.std.proofs.Common.{Err}
use Rattle.undo_plans.specs.declared.plan.Plan.{Plan}
use Rattle.text_board.specs.declared.fault.FileFault.TheVariants as of_file
use Rattle.plan_file.specs.declared.plan_fault.PlanFault.TheVariants as of_plan
use Rattle.app_serve.proofs.Serving.{was_read}
use Rattle.app_pair.proofs.Telling.{is_fault}
use Rattle.app_pair.proofs.inputs.read_inputs.Goals as goal

pub returns-in-Err-read_plan : goal.returns-in-Err-read_plan
returns-in-Err-read_plan c =
    ((c.in-Ok.file, was_read c.in-Ok.file of_file.Memory c.in-Ok.ensures), is_fault Plan c.in-Err-read_plan.why of_plan.Memory c.in-Err-read_plan.ensures)
