use Rattle.model_lab.proofs.LongExample.{joins_packets}
use Rattle.model_lab.proofs.examples.packets_are_joined.Goals as goal

pub returns : goal.returns
returns c = joins_packets
