use Rattle.model_lab.proofs.family_laws.boards_start_ready.Goals as goal
use Rattle.model_lab.proofs.Board.{starts_ready}

pub returns : goal.returns
returns c = starts_ready
