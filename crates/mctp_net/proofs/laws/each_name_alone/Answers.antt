use Rattle.mctp_net.proofs.NamesAlone.{own-name, other-name}
use Rattle.mctp_net.proofs.laws.each_name_alone.Goals as goal

pub returns-clause-same : goal.returns-clause-same
returns-clause-same c = own-name

pub returns-clause-other : goal.returns-clause-other
returns-clause-other c = other-name
