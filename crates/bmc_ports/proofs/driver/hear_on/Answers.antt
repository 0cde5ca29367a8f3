use Rattle.std.proofs.Common.{[], ◌∷◌, subst, sym}
use Rattle.two_wire.specs.declared.Bus.{Bus}
use Rattle.bmc_ports.specs.Conversation.{GivesOn, links}
use Rattle.bmc_ports.specs.Driving.{Answers, HaveCounted, both}
use Rattle.bmc_ports.proofs.Conversing.{gives_ipmb, gives_smbus}
use Rattle.bmc_ports.proofs.Turns.{counts_ipmb, counts_smbus}
use Rattle.bmc_ports.proofs.driver.hear_on.Goals as goal

pub returns-in-Ipmb : goal.returns-in-Ipmb
returns-in-Ipmb g c =
    let heard = c.hear.ensures in (
      heard.0,
      subst (λ (on : Bus). GivesOn g.A.Link g.B.Link on (links c.args.ipmb.now c.args.smbus.now) heard.0 (links c.hear.new.link c.args.smbus.now)) (sym c.in-Ipmb.is)
          (gives_ipmb g.A.Link g.B.Link c.args.ipmb.now c.hear.new.link c.args.smbus.now c.args.smbus.now heard.0 heard.1),
      subst (λ (on : Bus). HaveCounted (Answers on heard.0 ∷ []) (both (g.A.Link.counts_of c.args.ipmb.now) (g.B.Link.counts_of c.args.smbus.now))
          (both (g.A.Link.counts_of c.hear.new.link) (g.B.Link.counts_of c.args.smbus.now))) (sym c.in-Ipmb.is)
          (counts_ipmb heard.0 (g.A.Link.counts_of c.args.ipmb.now) (g.A.Link.counts_of c.hear.new.link) (g.B.Link.counts_of c.args.smbus.now) heard.1.counted),
      heard.2,
    )

pub returns-in-Smbus : goal.returns-in-Smbus
returns-in-Smbus g c =
    let heard = c.hear-in-Smbus.ensures in (
      heard.0,
      subst (λ (on : Bus). GivesOn g.A.Link g.B.Link on (links c.args.ipmb.now c.args.smbus.now) heard.0 (links c.args.ipmb.now c.hear-in-Smbus.new.link)) (sym c.in-Smbus.is)
          (gives_smbus g.A.Link g.B.Link c.args.ipmb.now c.args.ipmb.now c.args.smbus.now c.hear-in-Smbus.new.link heard.0 heard.1),
      subst (λ (on : Bus). HaveCounted (Answers on heard.0 ∷ []) (both (g.A.Link.counts_of c.args.ipmb.now) (g.B.Link.counts_of c.args.smbus.now))
          (both (g.A.Link.counts_of c.args.ipmb.now) (g.B.Link.counts_of c.hear-in-Smbus.new.link))) (sym c.in-Smbus.is)
          (counts_smbus heard.0 (g.B.Link.counts_of c.args.smbus.now) (g.B.Link.counts_of c.hear-in-Smbus.new.link) (g.A.Link.counts_of c.args.ipmb.now) heard.1.counted),
      heard.2,
    )
