use Rattle.model_lab.proofs.LongExample.{answers_packets}
use Rattle.model_lab.proofs.examples.packets_are_answered.Goals as goal

pub returns : goal.returns
returns c = answers_packets
