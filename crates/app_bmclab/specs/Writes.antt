-- The text of a schedule that is made of a plan on a board.
use Rattle.std.specs.Prelude.{◌≡◌, ℕ, List, Ok}
use Rattle.text_lines.specs.declared.event.Event.{Event}
use Rattle.text_lines.specs.Schedule.{TextIsRead}
use Rattle.text_lines.specs.Written.{text_of}
use Rattle.lab_play.specs.declared.schedule_making.ScheduleOptions.{ScheduleOptions}
use Rattle.lab_play.specs.Made.{IsMade}
use Rattle.app_base.specs.declared.status.Status.{Status}
use Rattle.app_base.specs.declared.status.Status.TheVariants.{Success}
use Rattle.app_play.specs.declared.inputs.Inputs.{Inputs}

-- The text is that of the schedule that was wanted of the plan on the board: its events were made so, and whoever reads it gets these events.
pub record WritesSchedule (wanted : ScheduleOptions) (inputs : Inputs) (text : List ℕ) (status : Status) : Type 0 where
  pub events : List Event
  pub made : IsMade inputs.file inputs.plan.steps inputs.plan.retries wanted events
  pub written : text ≡ text_of events
  pub read : TextIsRead text (Ok events)
  pub ended : status ≡ Success
