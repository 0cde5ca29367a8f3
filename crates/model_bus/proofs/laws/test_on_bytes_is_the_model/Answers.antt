use Rattle.model_bus.proofs.laws.test_on_bytes_is_the_model.Goals as goal
use Rattle.model_bus.specs.PacketSchedule.{RecentWhereWhole}
use Rattle.model_bus.proofs.PacketLaws.{recent_itself}
use Rattle.model_bus.proofs.Answering.{ipmb_test, smbus_test, packet_test, busy_fails}

pub returns-clause-ipmb : goal.returns-clause-ipmb
returns-clause-ipmb c = ipmb_test

pub returns-clause-smbus : goal.returns-clause-smbus
returns-clause-smbus c = smbus_test

pub returns-clause-in_packets : goal.returns-clause-in_packets
returns-clause-in_packets c = packet_test RecentWhereWhole recent_itself

pub returns-clause-busy : goal.returns-clause-busy
returns-clause-busy c = busy_fails
