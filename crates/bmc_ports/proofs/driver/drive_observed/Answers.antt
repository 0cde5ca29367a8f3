use Rattle.std.proofs.Common.{Bool, subst, arith}
use Rattle.bmc_ports.specs.Conversation.{frames_given, links}
use Rattle.bmc_ports.specs.Driving.{both}
use Rattle.bmc_ports.specs.Observing.{Observed, permit_at, permit_for, permit_of}
use Rattle.bmc_ports.proofs.Observers.{then_seen}
use Rattle.bmc_ports.proofs.Turns.{drives_from}
use Rattle.bmc_ports.proofs.driver.drive_observed.Goals as goal

pub returns-clause-drives : goal.returns-clause-drives
returns-clause-drives g c names s shows =
    let first = c.send_first.ensures.leads names s shows in
    drives_from names c.args.turns s c.make_turns.new.manager c.make_turns.result first.after (both (g.A.Link.counts_of c.args.ipmb.now) (g.B.Link.counts_of c.args.smbus.now))
    (both (g.A.Link.counts_of c.send_first.new.ipmb) (g.B.Link.counts_of c.send_first.new.smbus)) (both (g.A.Link.counts_of c.make_turns.new.ipmb) (g.B.Link.counts_of c.make_turns.new.smbus))
    first.leads (c.make_turns.ensures.drives names first.after first.shown)

pub returns-clause-observed : goal.returns-clause-observed
returns-clause-observed g c =
    then_seen g.O.Observer.sees g.A.Link g.B.Link (permit_for (frames_given c.args.first)) (permit_at c.make_turns.result) c.args.first c.args.manager.now c.send_first.new.manager c.make_turns.new.manager
    (links c.args.ipmb.now c.args.smbus.now) (links c.send_first.new.ipmb c.send_first.new.smbus) (links c.make_turns.new.ipmb c.make_turns.new.smbus) c.args.observer.now c.send_first.new.observer
    c.make_turns.new.observer
    (subst (λ (allowed : Bool). Observed g.O.Observer.sees g.A.Link g.B.Link (permit_for (frames_given c.args.first)) c.args.first c.args.manager.now c.send_first.new.manager
    (links c.args.ipmb.now c.args.smbus.now) (links c.send_first.new.ipmb c.send_first.new.smbus) (permit_of allowed) c.args.observer.now c.send_first.new.observer)
    c.if-not-send_first.false c.send_first.ensures.observed)
    c.make_turns.ensures.observed

pub returns-then-not-send_first-clause-drives : goal.returns-then-not-send_first-clause-drives
returns-then-not-send_first-clause-drives g c names s shows = record { made = 0; few = omega arith; leads = c.send_first.ensures.leads names s shows }

pub returns-then-not-send_first-clause-observed : goal.returns-then-not-send_first-clause-observed
returns-then-not-send_first-clause-observed g c =
    subst (λ (allowed : Bool). Observed g.O.Observer.sees g.A.Link g.B.Link (permit_for (frames_given c.args.first)) c.args.first c.args.manager.now c.send_first.new.manager
    (links c.args.ipmb.now c.args.smbus.now) (links c.send_first.new.ipmb c.send_first.new.smbus) (permit_of allowed) c.args.observer.now c.send_first.new.observer)
    c.if-not-send_first.true c.send_first.ensures.observed
