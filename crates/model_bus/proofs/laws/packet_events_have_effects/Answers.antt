use Rattle.model_bus.proofs.laws.packet_events_have_effects.Goals as goal
use Rattle.model_bus.specs.PacketSchedule.{LiveWhereJoined, OneRequestWhereJoined, RecentWhereWhole}
use Rattle.model_bus.proofs.PacketLaws.{recent_itself, live_is_recent, one_is_recent, effects_in_packets}

pub returns-clause-recent : goal.returns-clause-recent
returns-clause-recent c = effects_in_packets RecentWhereWhole recent_itself

pub returns-clause-live : goal.returns-clause-live
returns-clause-live c = effects_in_packets LiveWhereJoined live_is_recent

pub returns-clause-one_request : goal.returns-clause-one_request
returns-clause-one_request c = effects_in_packets OneRequestWhereJoined one_is_recent
