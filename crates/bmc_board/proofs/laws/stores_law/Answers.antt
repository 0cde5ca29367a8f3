use Rattle.bmc_board.proofs.StoresFacts.{both_or_none}
use Rattle.bmc_board.proofs.laws.stores_law.Goals as goal

pub returns : goal.returns
returns c = both_or_none
