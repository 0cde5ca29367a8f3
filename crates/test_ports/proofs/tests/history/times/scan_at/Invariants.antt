use Rattle.bmc_board.specs.State.{state_of}
use Rattle.test_ports.proofs.tests.history.times.scan_at.Given as goal

abbrev pub ghosts-scan-J-Opening : goal.ghosts-scan-J-Opening
ghosts-scan-J-Opening g a = record { setup = a.board.setup; opening = state_of a.board; room = a.room }

abbrev pub ghosts-scan-J-Ledger : goal.ghosts-scan-J-Ledger
ghosts-scan-J-Ledger g a = record { name = a.blank.name; parts = a.blank.parts }
