use Rattle.model_bus.proofs.examples.smbus_schedule_ends_answered.Goals as goal
use Rattle.model_bus.proofs.Schedules.{smbus_ends, smbus_shows}

pub returns-clause-ends : goal.returns-clause-ends
returns-clause-ends c = smbus_ends

pub returns-clause-shows : goal.returns-clause-shows
returns-clause-shows c = smbus_shows
