use Rattle.std.proofs.Common.{Bool, subst}
use Rattle.bmc_ports.specs.Conversation.{links}
use Rattle.bmc_ports.proofs.Observers.{sends_seen, keeps_back}
use Rattle.bmc_ports.proofs.driver.send_seen.Goals as goal

pub returns-then-not-look-clause-observed : goal.returns-then-not-look-clause-observed
returns-then-not-look-clause-observed g c =
    keeps_back g.O.Observer.sees g.A.Link g.B.Link c.args.manager.now c.args.given (links c.args.ipmb.now c.args.smbus.now) c.args.observer.now c.look.new.self
    (subst (λ (allowed : Bool). g.O.Observer.sees c.args.observer.now c.args.manager.now allowed c.look.new.self) c.if-not-look.true c.look.ensures)

pub returns-clause-observed : goal.returns-clause-observed
returns-clause-observed g c =
    sends_seen g.O.Observer.sees g.A.Link g.B.Link c.args.manager.now c.send_all.new.manager c.args.given (links c.args.ipmb.now c.args.smbus.now)
    (links c.send_all.new.ipmb c.send_all.new.smbus) c.args.observer.now c.look.new.self
    (subst (λ (allowed : Bool). g.O.Observer.sees c.args.observer.now c.args.manager.now allowed c.look.new.self) c.if-not-look.false c.look.ensures)
    c.send_all.ensures.over
