use Rattle.std.proofs.Common.{refl, arith}
use Rattle.mctp_net.proofs.Faultless.{fields-packet}
use Rattle.mctp_net.proofs.reading.packet_of.Goals as goal

pub returns : goal.returns
returns c =
    fields-packet c.args.bytes.now _ c.requires (λ i. omega (arith, c.type_inv.bytes i))
    c.address.ensures c.address-2.ensures refl refl refl c.new.ensures refl refl c.new-2.ensures c.new-3.ensures
