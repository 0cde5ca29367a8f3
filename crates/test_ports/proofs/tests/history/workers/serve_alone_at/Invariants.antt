use Rattle.bmc_board.specs.State.{state_of}
use Rattle.test_ports.proofs.tests.history.workers.serve_alone_at.Given as goal

abbrev pub ghosts-serve_alone-J-Opening : goal.ghosts-serve_alone-J-Opening
ghosts-serve_alone-J-Opening g a = record { setup = a.board.setup; opening = state_of a.board; room = a.room }

abbrev pub ghosts-serve_alone-J-Ledger : goal.ghosts-serve_alone-J-Ledger
ghosts-serve_alone-J-Ledger g a = record { name = a.blank.name; parts = a.blank.parts }
