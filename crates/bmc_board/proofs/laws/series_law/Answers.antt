use Rattle.bmc_board.proofs.SeriesFacts.{parts_are_read, sets_begin, later_parts_are_read, series_are_from_nobody}
use Rattle.bmc_board.proofs.laws.series_law.Goals as goal

pub returns-clause-parts : goal.returns-clause-parts
returns-clause-parts c = parts_are_read

pub returns-clause-first : goal.returns-clause-first
returns-clause-first c = sets_begin

pub returns-clause-later : goal.returns-clause-later
returns-clause-later c = later_parts_are_read

pub returns-clause-nobody : goal.returns-clause-nobody
returns-clause-nobody c = series_are_from_nobody
