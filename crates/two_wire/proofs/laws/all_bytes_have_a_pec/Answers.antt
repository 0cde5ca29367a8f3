use Rattle.two_wire.proofs.PacketError.{has_pec}
use Rattle.two_wire.proofs.laws.all_bytes_have_a_pec.Goals as goal

pub returns : goal.returns
returns c = has_pec
