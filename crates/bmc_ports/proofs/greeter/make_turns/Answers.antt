use Rattle.std.proofs.Common.{None, false, inl, inr, refl, arith}
use Rattle.undo_plans.specs.Greeter.{is_heeded}
use Rattle.bmc_ports.specs.Greeted.{moment, state}
use Rattle.bmc_ports.proofs.Greeting.{awaited, drives_both, none_awaited, stays}
use Rattle.bmc_ports.proofs.greeter.make_turns.Goals as goal

pub loop-init : goal.loop-init
loop-init g c = stays g.L.Link (moment (state c.args.greeting.now None false) c.args.link.now)

pub loop-preserved : goal.loop-preserved
loop-preserved g c =
    let on = awaited (is_heeded c.loop.greeting.stage) c.loop.greeting.bus c.in-Some.bus c.in-Some.ensures in
    drives_both g.L.Link c.loop.counter 1 _ (moment (state c.args.greeting.now None false) c.args.link.now) (moment (state c.loop.greeting None c.loop.busy) c.loop.link)
    (moment (state c.turn-busy.new.greeting None c.turn-busy.result) c.turn-busy.new.link) refl c.loop.invariant (c.turn-busy.ensures on.0 on.1)

pub returns-in_default : goal.returns-in_default
returns-in_default g c = record {
  made = c.loop.counter;
  few = c.loop.auto.counter-end;
  drives = c.loop.invariant;
  ended = inr (none_awaited (is_heeded c.loop.greeting.stage) c.loop.greeting.bus c.in_default.ensures);
}

pub returns : goal.returns
returns g c = record {
  made = c.loop.counter;
  few = c.loop.auto.counter-end;
  drives = c.loop.invariant;
  ended = inl (omega (arith, c.loop.auto.counter-end, c.loop-test.false));
}
