use Rattle.two_wire.proofs.PacketError.{one-pec}
use Rattle.two_wire.proofs.laws.one_pec.Goals as goal

pub returns : goal.returns
returns c = one-pec
