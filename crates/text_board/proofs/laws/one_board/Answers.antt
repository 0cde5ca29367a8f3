use Rattle.text_board.proofs.OneBoard.{one_reading}
use Rattle.text_board.proofs.laws.one_board.Goals as goal

pub returns : goal.returns
returns c = one_reading
