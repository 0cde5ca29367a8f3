use Rattle.bmc_core.proofs.SmbusLists.{heard_then_answered}
use Rattle.bmc_core.proofs.smbus_port.laws.a_packet_is_heard_and_then_answered.Goals as goal

pub returns : goal.returns
returns c = heard_then_answered
