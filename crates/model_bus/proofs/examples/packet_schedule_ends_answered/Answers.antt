use Rattle.model_bus.proofs.examples.packet_schedule_ends_answered.Goals as goal
use Rattle.model_bus.proofs.Schedules.{packets_end, packets_show}

pub returns-clause-ends : goal.returns-clause-ends
returns-clause-ends c = packets_end

pub returns-clause-shows : goal.returns-clause-shows
returns-clause-shows c = packets_show
