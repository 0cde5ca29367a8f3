use Rattle.bmc_board.proofs.AnswerFacts.{never_busy}
use Rattle.bmc_board.proofs.LiveFacts.{unknown_is_refused}
use Rattle.bmc_board.proofs.laws.codes_law.Goals as goal

pub returns-clause-answers : goal.returns-clause-answers
returns-clause-answers c = never_busy

pub returns-clause-unknown : goal.returns-clause-unknown
returns-clause-unknown c = unknown_is_refused
