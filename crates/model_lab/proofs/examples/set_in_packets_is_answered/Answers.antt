use Rattle.model_lab.proofs.PacketExample.{sets_in_packets}
use Rattle.model_lab.proofs.examples.set_in_packets_is_answered.Goals as goal

pub returns : goal.returns
returns c = sets_in_packets
