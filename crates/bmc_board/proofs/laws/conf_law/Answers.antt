use Rattle.bmc_board.proofs.ShownAgain.{is_steady, is_shown_as_before}
use Rattle.bmc_board.proofs.laws.conf_law.Goals as goal

pub returns-clause-steady : goal.returns-clause-steady
returns-clause-steady c = is_steady

pub returns-clause-undone : goal.returns-clause-undone
returns-clause-undone c = is_shown_as_before
