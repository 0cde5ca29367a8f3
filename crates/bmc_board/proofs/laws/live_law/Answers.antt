use Rattle.bmc_board.proofs.LiveFacts.{are_live}
use Rattle.bmc_board.proofs.laws.live_law.Goals as goal

pub returns-clause-answers : goal.returns-clause-answers
returns-clause-answers c = are_live
