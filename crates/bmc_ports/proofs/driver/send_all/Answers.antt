use Rattle.std.proofs.Common.{Option, Some, ap, subst, arith}
use Rattle.undo_core.specs.declared.sending.Sent.{Sent}
use Rattle.bmc_ports.specs.Conversation.{frames_given, links}
use Rattle.bmc_ports.specs.Driving.{both}
use Rattle.bmc_ports.proofs.Conversing.{OnItsWay, begins, all_sent, no_more, sent_now, failed_now}
use Rattle.bmc_ports.proofs.Turns.{leads_nowhere, failure_leads, goes_on_to, sends_on}
use Rattle.bmc_ports.proofs.driver.send_all.Goals as goal

pub loop-init : goal.loop-init
loop-init g c = (
  λ names s shows. record {
    after = s;
    shown = shows;
    leads = leads_nowhere names s (both (g.A.Link.counts_of c.args.ipmb.now) (g.B.Link.counts_of c.args.smbus.now));
  },
  λ names s shows. begins g.A.Link g.B.Link names s c.args.manager.now c.args.first (links c.args.ipmb.now c.args.smbus.now) shows,
)

pub loop-preserved : goal.loop-preserved
loop-preserved g c = (
  λ names s shows.
      let met = c.loop.invariant.0 names s shows in
      goes_on_to names 0 0 s met.after c.be_quiet-sent.new.manager (both (g.A.Link.counts_of c.args.ipmb.now) (g.B.Link.counts_of c.args.smbus.now))
      (both (g.A.Link.counts_of c.loop.ipmb) (g.B.Link.counts_of c.loop.smbus)) (both (g.A.Link.counts_of c.send_over.new.ipmb) (g.B.Link.counts_of c.send_over.new.smbus)) met.leads
      (failure_leads names met.after c.be_quiet-sent.new.manager c.be_quiet-sent.result (c.be_quiet-sent.ensures names met.after met.shown)
      (both (g.A.Link.counts_of c.loop.ipmb) (g.B.Link.counts_of c.loop.smbus)) (both (g.A.Link.counts_of c.send_over.new.ipmb) (g.B.Link.counts_of c.send_over.new.smbus)) c.in-Err.ensures.fails),
  λ names s shows.
      let over = links c.args.ipmb.now c.args.smbus.now in
      let way = subst
      (λ (sent : Option Sent). OnItsWay g.A.Link g.B.Link names s c.args.first over c.loop.counter c.loop.manager sent (links c.loop.ipmb c.loop.smbus))
      c.in-Some.is (c.loop.invariant.1 names s shows) in
      failed_now g.A.Link g.B.Link names s c.args.first c.in-Some.sending _ over (links c.loop.ipmb c.loop.smbus) (links c.send_over.new.ipmb c.send_over.new.smbus) c.loop.counter
      c.loop.manager c.be_quiet-sent.new.manager c.be_quiet-sent.result way c.in-Err.ensures.over (c.be_quiet-sent.ensures names way.after way.shown),
)

pub returns-in_default-clause-leads : goal.returns-in_default-clause-leads
returns-in_default-clause-leads g c = c.loop.invariant.0

pub returns-in_default-clause-over : goal.returns-in_default-clause-over
returns-in_default-clause-over g c names s shows =
    all_sent g.A.Link g.B.Link names s c.args.first c.loop.sent (links c.args.ipmb.now c.args.smbus.now) (links c.loop.ipmb c.loop.smbus) c.loop.counter c.loop.manager
    (c.loop.invariant.1 names s shows) (ap frames_given c.in_default.is)

pub returns-in-Ok-clause-leads : goal.returns-in-Ok-clause-leads
returns-in-Ok-clause-leads g c names s shows =
    sends_on names 0 s c.loop.manager (both (g.A.Link.counts_of c.args.ipmb.now) (g.B.Link.counts_of c.args.smbus.now))
    (both (g.A.Link.counts_of c.loop.ipmb) (g.B.Link.counts_of c.loop.smbus)) (both (g.A.Link.counts_of c.send_over.new.ipmb) (g.B.Link.counts_of c.send_over.new.smbus))
    (c.loop.invariant.0 names s shows) c.in-Ok.ensures.done

pub returns-in-Ok-clause-over : goal.returns-in-Ok-clause-over
returns-in-Ok-clause-over g c names s shows =
    let over = links c.args.ipmb.now c.args.smbus.now in
    sent_now g.A.Link g.B.Link names s c.args.first c.in-Some.sending over (links c.loop.ipmb c.loop.smbus) (links c.send_over.new.ipmb c.send_over.new.smbus) c.loop.counter c.loop.manager
    (subst (λ (sent : Option Sent). OnItsWay g.A.Link g.B.Link names s c.args.first over c.loop.counter c.loop.manager sent (links c.loop.ipmb c.loop.smbus))
    c.in-Some.is (c.loop.invariant.1 names s shows)) c.in-Ok.ensures.over

pub returns-clause-leads : goal.returns-clause-leads
returns-clause-leads g c = c.loop.invariant.0

pub returns-clause-over : goal.returns-clause-over
returns-clause-over g c names s shows =
    let way = c.loop.invariant.1 names s shows in
    no_more g.A.Link g.B.Link names s c.args.first c.loop.sent (links c.args.ipmb.now c.args.smbus.now) (links c.loop.ipmb c.loop.smbus) c.loop.counter
    c.resent-fewer.result c.loop.manager way (c.resent-fewer.ensures names way.after way.shown) (omega (arith, c.resent-fewer.type_inv, c.loop-test.false))
