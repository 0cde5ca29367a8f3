use Rattle.model_lab.proofs.PacketExample.{takes_packets}
use Rattle.model_lab.proofs.examples.reply_in_packets_is_taken.Goals as goal

pub returns : goal.returns
returns c = takes_packets
