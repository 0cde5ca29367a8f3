use Rattle.bmc_board.specs.State.{state_of}
use Rattle.test_ports.proofs.tests.history.workers.share_at.Given as goal

abbrev pub ghosts-share-J-Opening : goal.ghosts-share-J-Opening
ghosts-share-J-Opening g a = record { setup = a.board.setup; opening = state_of a.board; room = a.room }

abbrev pub ghosts-share-J-Ledger : goal.ghosts-share-J-Ledger
ghosts-share-J-Ledger g a = record { name = a.blank.name; parts = a.blank.parts }
