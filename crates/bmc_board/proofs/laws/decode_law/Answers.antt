use Rattle.record_kinds.specs.LimitsLaws.{kind_laws}
use Rattle.bmc_board.proofs.FromAnyone.{is_read_from_all}
use Rattle.bmc_board.proofs.Decoded.{gets_are_read, sets_are_read}
use Rattle.bmc_board.proofs.laws.decode_law.Goals as goal

pub returns-clause-gets : goal.returns-clause-gets
returns-clause-gets c = gets_are_read

pub returns-clause-sets : goal.returns-clause-sets
returns-clause-sets c = sets_are_read

pub returns-clause-anyone : goal.returns-clause-anyone
returns-clause-anyone c = is_read_from_all

pub returns-clause-plain : goal.returns-clause-plain
returns-clause-plain c = kind_laws.plain
