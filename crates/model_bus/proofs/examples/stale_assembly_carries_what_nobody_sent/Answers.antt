use Rattle.model_bus.proofs.examples.stale_assembly_carries_what_nobody_sent.Goals as goal
use Rattle.model_bus.proofs.Schedules.{nobody_sent}

pub returns : goal.returns
returns c = nobody_sent
