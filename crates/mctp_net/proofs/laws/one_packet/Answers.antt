use Rattle.mctp_net.proofs.PacketLaws.{packet-one}
use Rattle.mctp_net.proofs.laws.one_packet.Goals as goal

pub returns : goal.returns
returns c = packet-one
