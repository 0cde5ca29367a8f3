use Rattle.std.proofs.Common.{None, inl, inr, refl, sym, arith}
use Rattle.app_look.specs.Driven.{moment, state}
use Rattle.app_look.proofs.Looking.{awaited_here, drives_both, stays}
use Rattle.app_look.proofs.look_driver.make_turns.Goals as goal

pub loop-init : goal.loop-init
loop-init g c = (stays g.L.Link c.args.bus (moment (state c.args.looker.now None) c.args.link.now), c.requires)

pub turn-requires : goal.turn-requires
turn-requires g c = awaited_here c.args.bus c.in-Some.field-0 c.loop.looker.stage c.loop.invariant.1 (sym c.in-Some.ensures)

pub loop-preserved : goal.loop-preserved
loop-preserved g c = (
  drives_both g.L.Link c.args.bus c.loop.counter 1 _ (moment (state c.args.looker.now None) c.args.link.now) (moment (state c.loop.looker None) c.loop.link)
      (moment (state c.turn.new.looker None) c.turn.new.link) refl c.loop.invariant.0 c.turn.ensures.drives,
  c.turn.ensures.on,
)

pub returns-in_default : goal.returns-in_default
returns-in_default g c = record {
  made = c.loop.counter;
  few = c.loop.auto.counter-end;
  drives = c.loop.invariant.0;
  ended = inr (sym c.in_default.ensures);
}

pub returns : goal.returns
returns g c = record {
  made = c.loop.counter;
  few = c.loop.auto.counter-end;
  drives = c.loop.invariant.0;
  ended = inl (omega (arith, c.loop.auto.counter-end, c.loop-test.false));
}
