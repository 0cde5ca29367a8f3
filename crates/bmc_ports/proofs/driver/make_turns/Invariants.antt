use Rattle.std.proofs.Common.{None}
use Rattle.undo_plans.specs.declared.names.Names.{Names}
use Rattle.undo_core.specs.Shown.{Represents}
use Rattle.bmc_ports.specs.Conversation.{links}
use Rattle.bmc_ports.specs.Driving.{DrivenState, both, LeadsTo}
use Rattle.bmc_ports.specs.Observing.{MaySend, Observed}
use Rattle.bmc_ports.proofs.driver.make_turns.Given as goal

abbrev pub invariant-loop : goal.invariant-loop
invariant-loop g l =
    ((names : Names) (s : DrivenState names) → Represents names l.initial.manager s
    → LeadsTo names l.counter s l.manager (both (g.A.Link.counts_of l.initial.ipmb) (g.B.Link.counts_of l.initial.smbus)) (both (g.A.Link.counts_of l.ipmb) (g.B.Link.counts_of l.smbus)))
    × Observed g.O.Observer.sees g.A.Link g.B.Link MaySend None l.initial.manager l.manager (links l.initial.ipmb l.initial.smbus) (links l.ipmb l.smbus) MaySend l.initial.observer l.observer
