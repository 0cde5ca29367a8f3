use Rattle.model_bus.proofs.laws.join_rules_imply_recent.Goals as goal
use Rattle.model_bus.specs.PacketSchedule.{LiveWhereJoined, OneRequestWhereJoined}
use Rattle.model_bus.proofs.PacketLaws.{live_is_recent, one_is_recent, implies}

pub returns-clause-live : goal.returns-clause-live
returns-clause-live c = implies LiveWhereJoined live_is_recent

pub returns-clause-one_request : goal.returns-clause-one_request
returns-clause-one_request c = implies OneRequestWhereJoined one_is_recent
