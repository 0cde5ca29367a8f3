use Rattle.shown_records.proofs.laws.meanings_are_right.Goals as goal
use Rattle.shown_records.proofs.BoardsForeseen as boards

pub returns-clause-same : goal.returns-clause-same
returns-clause-same c = boards.stays_same

pub returns-clause-changes : goal.returns-clause-changes
returns-clause-changes c = boards.changes_record
