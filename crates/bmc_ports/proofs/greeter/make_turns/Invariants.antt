use Rattle.std.proofs.Common.{None, false}
use Rattle.bmc_ports.specs.Greeted.{Drives, moment, state}
use Rattle.bmc_ports.proofs.greeter.make_turns.Given as goal

abbrev pub invariant-loop : goal.invariant-loop
invariant-loop g l = Drives g.L.Link l.counter (moment (state l.initial.greeting None false) l.initial.link) (moment (state l.greeting None l.busy) l.link)
