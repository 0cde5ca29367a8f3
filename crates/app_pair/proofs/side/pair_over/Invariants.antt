use Rattle.bmc_board.specs.State.{state_of}
use Rattle.app_pair.proofs.side.pair_over.Given as goal

abbrev pub ghosts-pair_opened-J-Opening : goal.ghosts-pair_opened-J-Opening
ghosts-pair_opened-J-Opening g a = record { setup = a.board.setup; opening = state_of a.board; room = a.room }

abbrev pub ghosts-pair_opened-J-Ledger : goal.ghosts-pair_opened-J-Ledger
ghosts-pair_opened-J-Ledger g a = record { name = a.blank.name; parts = a.blank.parts }
