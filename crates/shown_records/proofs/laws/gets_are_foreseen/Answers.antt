use Rattle.shown_records.proofs.laws.gets_are_foreseen.Goals as goal
use Rattle.shown_records.proofs.BoardsForeseen as boards

pub returns-clause-foresees : goal.returns-clause-foresees
returns-clause-foresees c = boards.foresees

pub returns-clause-in_turn : goal.returns-clause-in_turn
returns-clause-in_turn c = boards.foresees_all

pub returns-clause-leaves_all : goal.returns-clause-leaves_all
returns-clause-leaves_all c = boards.leaves_all
