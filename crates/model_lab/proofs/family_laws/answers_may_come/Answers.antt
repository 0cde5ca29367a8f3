use Rattle.model_lab.proofs.family_laws.answers_may_come.Goals as goal
use Rattle.model_undo.proofs.TwoBuses.{however_sent}
use Rattle.model_lab.specs.Board.{AnswersMay}
use Rattle.model_lab.proofs.Board.{answers_may}

pub returns : goal.returns
returns c setup at = however_sent at (AnswersMay setup at) (answers_may setup at)
