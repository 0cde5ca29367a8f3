use Rattle.mctp_net.proofs.Faultless.{fault-or-packet}
use Rattle.mctp_net.proofs.PacketLaws.{packet-whole}
use Rattle.mctp_net.proofs.laws.fault_or_packet.Goals as goal

pub returns : goal.returns
returns c = record {
  either = fault-or-packet;
  not_both = packet-whole;
}
