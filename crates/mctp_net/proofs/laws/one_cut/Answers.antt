use Rattle.mctp_net.proofs.OneCut.{cut-one}
use Rattle.mctp_net.proofs.laws.one_cut.Goals as goal

pub returns : goal.returns
returns c = cut-one
