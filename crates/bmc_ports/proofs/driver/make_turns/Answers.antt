use Rattle.std.proofs.Common.{◌+◌, Bool, None, inl, subst, arith}
use Rattle.bmc_ports.specs.Conversation.{links}
use Rattle.bmc_ports.specs.Driving.{both}
use Rattle.bmc_ports.specs.Observing.{MaySend, MayNot, Observed, permit_of}
use Rattle.bmc_ports.proofs.Observers.{stays_seen, then_seen}
use Rattle.bmc_ports.proofs.Turns.{goes_on_to, leads_nowhere}
use Rattle.bmc_ports.proofs.driver.make_turns.Goals as goal

pub loop-init : goal.loop-init
loop-init g c = (
  λ names s shows. record {
    after = s;
    shown = shows;
    leads = leads_nowhere names s (both (g.A.Link.counts_of c.args.ipmb.now) (g.B.Link.counts_of c.args.smbus.now));
  },
  stays_seen g.O.Observer.sees g.A.Link g.B.Link c.args.manager.now (links c.args.ipmb.now c.args.smbus.now) c.args.observer.now,
)

pub loop-preserved : goal.loop-preserved
loop-preserved g c = (
  λ names s shows.
      let met = c.loop.invariant.0 names s shows in
      goes_on_to names c.loop.counter 1 s met.after c.turn.new.manager (both (g.A.Link.counts_of c.args.ipmb.now) (g.B.Link.counts_of c.args.smbus.now))
      (both (g.A.Link.counts_of c.loop.ipmb) (g.B.Link.counts_of c.loop.smbus)) (both (g.A.Link.counts_of c.turn.new.ipmb) (g.B.Link.counts_of c.turn.new.smbus))
      met.leads (c.turn.ensures.leads names met.after met.shown),
  then_seen g.O.Observer.sees g.A.Link g.B.Link MaySend MaySend None c.args.manager.now c.loop.manager c.turn.new.manager (links c.args.ipmb.now c.args.smbus.now)
      (links c.loop.ipmb c.loop.smbus) (links c.turn.new.ipmb c.turn.new.smbus) c.args.observer.now c.loop.observer c.turn.new.observer
      c.loop.invariant.1
      (subst (λ (allowed : Bool). Observed g.O.Observer.sees g.A.Link g.B.Link MaySend None c.loop.manager c.turn.new.manager (links c.loop.ipmb c.loop.smbus)
      (links c.turn.new.ipmb c.turn.new.smbus) (permit_of allowed) c.loop.observer c.turn.new.observer) c.if-not-turn.false c.turn.ensures.observed),
)

pub returns-clause-drives : goal.returns-clause-drives
returns-clause-drives g c names s shows =
    let met = c.loop.invariant.0 names s shows in
    record {
      after = met.after;
      shown = met.shown;
      is_phase = c.phase-2.ensures names met.after met.shown;
      driven = record {
        made = c.loop.counter;
        few = c.loop.auto.counter-end;
        leads = met.leads;
        ended = inl (omega (arith, c.loop.auto.counter-end, c.loop-test.false));
      };
    }

pub returns-then-not-turn-clause-drives : goal.returns-then-not-turn-clause-drives
returns-then-not-turn-clause-drives g c names s shows =
    let met = c.loop.invariant.0 names s shows in
    record {
      made = c.loop.counter + 1;
      few = omega (arith, c.loop-test.true);
      leads = goes_on_to names c.loop.counter 1 s met.after c.turn.new.manager (both (g.A.Link.counts_of c.args.ipmb.now) (g.B.Link.counts_of c.args.smbus.now))
          (both (g.A.Link.counts_of c.loop.ipmb) (g.B.Link.counts_of c.loop.smbus)) (both (g.A.Link.counts_of c.turn.new.ipmb) (g.B.Link.counts_of c.turn.new.smbus))
          met.leads (c.turn.ensures.leads names met.after met.shown);
    }

pub returns-then-not-turn-clause-observed : goal.returns-then-not-turn-clause-observed
returns-then-not-turn-clause-observed g c =
    then_seen g.O.Observer.sees g.A.Link g.B.Link MaySend MayNot None c.args.manager.now c.loop.manager c.turn.new.manager (links c.args.ipmb.now c.args.smbus.now)
    (links c.loop.ipmb c.loop.smbus) (links c.turn.new.ipmb c.turn.new.smbus) c.args.observer.now c.loop.observer c.turn.new.observer c.loop.invariant.1
    (subst (λ (allowed : Bool). Observed g.O.Observer.sees g.A.Link g.B.Link MaySend None c.loop.manager c.turn.new.manager (links c.loop.ipmb c.loop.smbus)
    (links c.turn.new.ipmb c.turn.new.smbus) (permit_of allowed) c.loop.observer c.turn.new.observer) c.if-not-turn.true c.turn.ensures.observed)
