use Rattle.bmc_shared.proofs.Getting.{gets_what_was_set}
use Rattle.bmc_shared.proofs.laws.get_law.Goals as goal

pub returns : goal.returns
returns c = gets_what_was_set
