use Rattle.model_bus.proofs.laws.resumed_manager_goes_on_in_packets.Goals as goal
use Rattle.model_bus.specs.PacketSchedule.{LiveWhereJoined, OneRequestWhereJoined, RecentWhereWhole}
use Rattle.model_bus.proofs.PacketLaws.{recent_itself, live_is_recent, one_is_recent}
use Rattle.model_bus.proofs.Resume.{packets_resume, waits_where_closed}

pub returns-clause-recent : goal.returns-clause-recent
returns-clause-recent c = packets_resume RecentWhereWhole recent_itself

pub returns-clause-live : goal.returns-clause-live
returns-clause-live c = packets_resume LiveWhereJoined live_is_recent

pub returns-clause-one_request : goal.returns-clause-one_request
returns-clause-one_request c = packets_resume OneRequestWhereJoined one_is_recent

pub returns-clause-nothing_waits : goal.returns-clause-nothing_waits
returns-clause-nothing_waits c = waits_where_closed RecentWhereWhole recent_itself
