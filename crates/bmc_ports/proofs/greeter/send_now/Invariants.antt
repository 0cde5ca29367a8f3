use Rattle.std.proofs.Common.{Bool}
use Rattle.bmc_ports.specs.Greeted.{Drives, moment, state}
use Rattle.bmc_ports.proofs.Greeting.{sendings_left}
use Rattle.bmc_ports.proofs.greeter.send_now.Given as goal

abbrev pub invariant-loop-sent : goal.invariant-loop-sent
invariant-loop-sent g l =
    (busy : Bool) → Drives g.L.Link 0 (moment (state l.initial.greeting l.fn.first busy) l.initial.link) (moment (state l.greeting l.sent busy) l.link)

abbrev pub decreases-loop-sent : goal.decreases-loop-sent
decreases-loop-sent g l = sendings_left l.sent l.greeting
