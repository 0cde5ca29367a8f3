use Rattle.std.proofs.Common.{refl}
use Rattle.mctp_net.specs.Pieces.{pieces_of, count_of}
use Rattle.mctp_net.proofs.Cuts.{is_cut}
use Rattle.mctp_net.proofs.laws.has_cut.Goals as goal

pub returns : goal.returns
returns c = λ m some fits. (pieces_of m (count_of m), is_cut m (count_of m) refl some fits)
