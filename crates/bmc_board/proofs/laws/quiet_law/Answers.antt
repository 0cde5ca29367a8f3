use Rattle.bmc_board.proofs.Quiet.{keeps_records, keeps_stagings}
use Rattle.bmc_board.proofs.laws.quiet_law.Goals as goal

pub returns-clause-records : goal.returns-clause-records
returns-clause-records c = keeps_records

pub returns-clause-staged : goal.returns-clause-staged
returns-clause-staged c = keeps_stagings
