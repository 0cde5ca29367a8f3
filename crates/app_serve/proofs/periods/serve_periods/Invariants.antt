use Rattle.std.proofs.Common.{◌≡◌, ◌≤◌, ◌+◌, ◌*◌, true}
use Rattle.bmc_board.specs.State.{state_of}
use Rattle.app_serve.specs.Served.{most_events}
use Rattle.app_serve.specs.Periods.{RunsTo}
use Rattle.bmc_ports.proofs.Rounds.{turns_left}
use Rattle.app_serve.proofs.periods.serve_periods.Given as goal

-- so many periods behind the first took a turn each at least, and all have so many events at most
abbrev pub invariant-loop : goal.invariant-loop
invariant-loop g l =
    RunsTo g.A.Link g.B.Link l.fn.rules.periods l.fn.rules.quiet l.fn.board.setup (state_of l.fn.board) l.fn.lanes l.fn.agenda l.course
    × (l.fn.rules.periods ≡ true)
    × (turns_left l.course.lanes + l.counter ≤ turns_left l.fn.lanes)
    × (l.course.events ≤ most_events * (l.counter + 1))

abbrev pub ghosts-serve_period-J-Opening : goal.ghosts-serve_period-J-Opening
ghosts-serve_period-J-Opening g a = record { setup = a.course.board.setup; opening = state_of a.course.board; room = most_events }

abbrev pub ghosts-serve_period-J-Ledger : goal.ghosts-serve_period-J-Ledger
ghosts-serve_period-J-Ledger g a = record { name = a.blank.name; parts = a.blank.parts }
