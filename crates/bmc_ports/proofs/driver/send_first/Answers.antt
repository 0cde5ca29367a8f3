use Rattle.std.proofs.Common.{Option, subst, sym}
use Rattle.undo_core.specs.declared.sending.Sent.{Sent}
use Rattle.bmc_ports.specs.Conversation.{frames_given, links}
use Rattle.bmc_ports.specs.Observing.{MaySend, Observed, permit_for}
use Rattle.bmc_ports.proofs.Observers.{stays_seen}
use Rattle.bmc_ports.proofs.driver.send_first.Goals as goal

pub returns-in-None-clause-observed : goal.returns-in-None-clause-observed
returns-in-None-clause-observed g c =
    let over = links c.args.ipmb.now c.args.smbus.now in
    subst
    (λ (given : Option Sent). Observed g.O.Observer.sees g.A.Link g.B.Link (permit_for (frames_given given)) given c.args.manager.now c.args.manager.now over over MaySend
    c.args.observer.now c.args.observer.now)
    (sym c.in-None.is) (stays_seen g.O.Observer.sees g.A.Link g.B.Link c.args.manager.now over c.args.observer.now)
