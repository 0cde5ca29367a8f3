use Rattle.model_bus.proofs.laws.none_open_is_honest.Goals as goal
use Rattle.model_bus.proofs.WholeMessages.{none_open}
use Rattle.model_bus.proofs.PacketLaws.{none_open_in_packets}

pub returns-clause-whole : goal.returns-clause-whole
returns-clause-whole c = none_open

pub returns-clause-in_packets : goal.returns-clause-in_packets
returns-clause-in_packets c = none_open_in_packets
