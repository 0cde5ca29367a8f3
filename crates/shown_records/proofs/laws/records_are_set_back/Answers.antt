use Rattle.shown_records.proofs.laws.records_are_set_back.Goals as goal
use Rattle.shown_records.proofs.BoardsBack as boards

pub returns : goal.returns
returns c = boards.sets_back
