use Rattle.std.proofs.Common.{◌≡◌, ap, find, None, Ok}
use Rattle.mctp_net.specs.Grammar.{has_fault, faults}
use Rattle.mctp_net.proofs.PacketLaws.{packet-one, packet-whole}
use Rattle.mctp_net.proofs.reading.read_packet.Goals as goal

pub returns-in-Some-clause-whole : goal.returns-in-Some-clause-whole
returns-in-Some-clause-whole c = λ p h.
    let none : find (has_fault c.args.bytes.now) faults ≡ None = packet-whole p c.args.bytes.now h in cc

pub returns-in-None-clause-whole : goal.returns-in-None-clause-whole
returns-in-None-clause-whole c = λ p h. ap Ok (packet-one c.packet_of.result p c.args.bytes.now c.packet_of.ensures h)
