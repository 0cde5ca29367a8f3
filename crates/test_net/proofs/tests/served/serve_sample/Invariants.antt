use Rattle.bmc_board.specs.State.{state_of}
use Rattle.test_net.proofs.tests.served.serve_sample.Given as goal

abbrev pub ghosts-serve_first-J-Opening : goal.ghosts-serve_first-J-Opening
ghosts-serve_first-J-Opening g a = record { setup = a.board.setup; opening = state_of a.board; room = a.room }

abbrev pub ghosts-serve_first-J-Ledger : goal.ghosts-serve_first-J-Ledger
ghosts-serve_first-J-Ledger g a = record { name = a.blank.name; parts = a.blank.parts }
