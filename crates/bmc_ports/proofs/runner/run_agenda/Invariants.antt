use Rattle.std.proofs.Common.{◌+◌, ◌≤◌}
use Rattle.bmc_ports.specs.Lending.{AreBack}
use Rattle.bmc_ports.proofs.Rounds.{turns_left}
use Rattle.bmc_ports.proofs.runner.run_agenda.Given as goal

-- all three are back, and each round but the first made a turn
abbrev pub invariant-loop : goal.invariant-loop
invariant-loop g l =
    AreBack g.A.Link g.B.Link l.fn.seats l.fn.lanes l.fn.agenda l.sliced
    × (turns_left l.sliced.lanes + l.counter ≤ turns_left l.fn.lanes)
