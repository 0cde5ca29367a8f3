use Rattle.bmc_ports.specs.Conversation.{links}
use Rattle.bmc_ports.specs.Driving.{both}
use Rattle.bmc_ports.specs.Observing.{permit_of}
use Rattle.bmc_ports.proofs.Observers.{hears_seen}
use Rattle.bmc_ports.proofs.Turns.{turn_leads, goes_on_to}
use Rattle.bmc_ports.proofs.driver.turn.Goals as goal

pub returns-clause-leads : goal.returns-clause-leads
returns-clause-leads g c names s shows =
    let heard = c.hear_on-given.ensures in
    let first = turn_leads names c.args.bus heard.0 s c.hear_on-given.new.manager c.hear_on-given.result (c.requires.open names s shows) (heard.3 names s shows)
    (both (g.A.Link.counts_of c.args.ipmb.now) (g.B.Link.counts_of c.args.smbus.now)) (both (g.A.Link.counts_of c.hear_on-given.new.ipmb) (g.B.Link.counts_of c.hear_on-given.new.smbus)) heard.2 in
    goes_on_to names 1 0 s first.after c.send_seen.new.manager (both (g.A.Link.counts_of c.args.ipmb.now) (g.B.Link.counts_of c.args.smbus.now))
    (both (g.A.Link.counts_of c.hear_on-given.new.ipmb) (g.B.Link.counts_of c.hear_on-given.new.smbus))
    (both (g.A.Link.counts_of c.send_seen.new.ipmb) (g.B.Link.counts_of c.send_seen.new.smbus))
    first.leads (c.send_seen.ensures.leads names first.after first.shown)

pub returns-clause-observed : goal.returns-clause-observed
returns-clause-observed g c =
    let heard = c.hear_on-given.ensures in
    hears_seen g.O.Observer.sees g.A.Link g.B.Link c.args.bus heard.0 (permit_of c.send_seen.result) c.args.manager.now c.hear_on-given.new.manager c.send_seen.new.manager c.hear_on-given.result
    (links c.args.ipmb.now c.args.smbus.now) (links c.hear_on-given.new.ipmb c.hear_on-given.new.smbus) (links c.send_seen.new.ipmb c.send_seen.new.smbus) c.args.observer.now c.send_seen.new.observer
    c.requires.open heard.1 heard.3 c.send_seen.ensures.observed
