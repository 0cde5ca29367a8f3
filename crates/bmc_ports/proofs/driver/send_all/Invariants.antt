use Rattle.undo_plans.specs.declared.names.Names.{Names}
use Rattle.undo_core.specs.Shown.{Represents}
use Rattle.bmc_ports.specs.Conversation.{links}
use Rattle.bmc_ports.specs.Driving.{DrivenState, both, LeadsTo}
use Rattle.bmc_ports.proofs.Conversing.{OnItsWay}
use Rattle.bmc_ports.proofs.driver.send_all.Given as goal

abbrev pub invariant-loop : goal.invariant-loop
invariant-loop g l =
    ((names : Names) (s : DrivenState names) → Represents names l.initial.manager s
    → LeadsTo names 0 s l.manager (both (g.A.Link.counts_of l.initial.ipmb) (g.B.Link.counts_of l.initial.smbus)) (both (g.A.Link.counts_of l.ipmb) (g.B.Link.counts_of l.smbus)))
    × ((names : Names) (s : DrivenState names) → Represents names l.initial.manager s
    → OnItsWay g.A.Link g.B.Link names s l.fn.first (links l.initial.ipmb l.initial.smbus) l.counter l.manager l.sent (links l.ipmb l.smbus))
