use Rattle.model_bus.proofs.examples.ipmb_schedule_ends_answered.Goals as goal
use Rattle.model_bus.proofs.Schedules.{ipmb_ends, ipmb_shows}

pub returns-clause-ends : goal.returns-clause-ends
returns-clause-ends c = ipmb_ends

pub returns-clause-shows : goal.returns-clause-shows
returns-clause-shows c = ipmb_shows
