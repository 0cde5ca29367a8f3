use Rattle.mctp_net.proofs.ComingBack.{cut-comes_back}
use Rattle.mctp_net.proofs.laws.comes_back.Goals as goal

pub returns : goal.returns
returns c = cut-comes_back
