use Rattle.undo_plans.specs.declared.plan.Plan.{Plan}
use Rattle.text_board.specs.declared.fault.FileFault.TheVariants as of_file
use Rattle.plan_file.specs.declared.plan_fault.PlanFault.TheVariants as of_plan
use Rattle.app_play.proofs.Readers.{was_read, was_refused}
use Rattle.app_play.proofs.inputs.read_inputs.Goals as goal

pub returns-in-Err-read_plan : goal.returns-in-Err-read_plan
returns-in-Err-read_plan c =
    ((c.in-Ok.file, was_read c.in-Ok.file of_file.Memory c.in-Ok.ensures), was_refused Plan c.in-Err-read_plan.why of_plan.Memory c.in-Err-read_plan.ensures)

pub returns-in-Err-read_schedule : goal.returns-in-Err-read_schedule
returns-in-Err-read_schedule c =
    ((c.in-Ok.file, was_read c.in-Ok.file of_file.Memory c.in-Ok.ensures), (c.in-Ok-read_plan.plan, was_read c.in-Ok-read_plan.plan of_plan.Memory c.in-Ok-read_plan.ensures), c.in-Err-read_schedule.ensures)
