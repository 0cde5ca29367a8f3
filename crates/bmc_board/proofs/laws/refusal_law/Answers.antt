use Rattle.bmc_board.proofs.AnswerFacts.{refused_leaves}
use Rattle.bmc_board.proofs.laws.refusal_law.Goals as goal

pub returns : goal.returns
returns c = refused_leaves
