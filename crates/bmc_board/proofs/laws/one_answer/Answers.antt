use Rattle.bmc_board.proofs.OneAnswer.{has_answer, has_one_answer}
use Rattle.bmc_board.proofs.laws.one_answer.Goals as goal

pub returns-clause-answered : goal.returns-clause-answered
returns-clause-answered c = has_answer

pub returns-clause-once : goal.returns-clause-once
returns-clause-once c = has_one_answer
