use Rattle.bmc_board.specs.State.{state_of}
use Rattle.test_ports.proofs.tests.history.rooms.fill_two.Given as goal

abbrev pub ghosts-fill-J-Opening : goal.ghosts-fill-J-Opening
ghosts-fill-J-Opening g a = record { setup = a.board.setup; opening = state_of a.board; room = a.room }
