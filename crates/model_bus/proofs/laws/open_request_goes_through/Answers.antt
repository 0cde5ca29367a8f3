use Rattle.model_bus.proofs.laws.open_request_goes_through.Goals as goal
use Rattle.model_bus.specs.PacketSchedule.{RecentWhereWhole}
use Rattle.model_bus.proofs.PacketLaws.{recent_itself}
use Rattle.model_bus.proofs.CleanLink.{ipmb_goes_through, smbus_goes_through, packets_go_through, cut_is_whole}

pub returns-clause-ipmb : goal.returns-clause-ipmb
returns-clause-ipmb c = ipmb_goes_through

pub returns-clause-smbus : goal.returns-clause-smbus
returns-clause-smbus c = smbus_goes_through

pub returns-clause-in_packets : goal.returns-clause-in_packets
returns-clause-in_packets c = packets_go_through RecentWhereWhole recent_itself

pub returns-clause-cut : goal.returns-clause-cut
returns-clause-cut c = cut_is_whole
