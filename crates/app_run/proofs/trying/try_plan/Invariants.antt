use Rattle.std.proofs.Common.{◌-◌}
use Rattle.bmc_ports.specs.Conversation.{links}
use Rattle.app_run.proofs.Starts.{IsStarted}
use Rattle.app_run.proofs.trying.try_plan.Given as goal

abbrev pub invariant-loop : goal.invariant-loop
invariant-loop g l =
    IsStarted g.T.Observer.sees g.A.Link g.B.Link l.agains l.fn.turns l.fn.manager (links l.fn.ipmb l.fn.smbus) l.fn.watch (l.agains - l.counter) l.left l.manager l.sent (links l.ipmb l.smbus) l.watch
