use Rattle.model_lab.proofs.family_laws.boards_start_valid.Goals as goal
use Rattle.model_lab.proofs.Board.{starts_valid}

pub returns : goal.returns
returns c = starts_valid
