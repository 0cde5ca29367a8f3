use Rattle.std.specs.Prelude.{Option}
use Rattle.std.proofs.Common.{◌≡◌, ◌+◌, ◌-◌, ℕ, suc, Ok, subst, arith}
use Rattle.model_lab.specs.Meaning.{lab_names}
use Rattle.bmc_ports.specs.Conversation.{links}
use Rattle.bmc_ports.specs.Driving.{both}
use Rattle.bmc_ports.specs.Observing.{MaySend, MayNot, permit_at}
use Rattle.app_run.specs.Stops.{StopsAfter}
use Rattle.app_run.proofs.Courses.{seen_again, seen_drives, seen_no_more, seen_starts}
use Rattle.app_run.proofs.Tries.{stopped}
use Rattle.app_apply.proofs.Out.{begins, called_again, ends_over, kept_over, not_again}
use Rattle.app_apply.proofs.driving.drive_out.Goals as goal

pub loop-init : goal.loop-init
loop-init g c = (
  λ s shows. begins c.args.agains _ c.args.turns s c.args.manager.now (both (g.A.Link.counts_of c.args.ipmb.now) (g.B.Link.counts_of c.args.smbus.now)) (omega arith) shows,
  seen_starts g.T.Observer.sees g.A.Link g.B.Link c.args.manager.now c.args.first (links c.args.ipmb.now c.args.smbus.now) c.args.watch.now,
)

pub returns-in-Ok-None-clause-drives : goal.returns-in-Ok-None-clause-drives
returns-in-Ok-None-clause-drives g c s shows =
    let on = c.loop.invariant.0 s shows in
    let some : c.args.agains - c.loop.counter ≡ suc (c.args.agains - (c.loop.counter + 1)) = omega (arith, c.loop-test.true) in
    ends_over c.args.agains c.args.turns s (both (g.A.Link.counts_of c.args.ipmb.now) (g.B.Link.counts_of c.args.smbus.now)) (c.args.agains - c.loop.counter)
    (c.args.agains - (c.loop.counter + 1)) c.loop.manager c.drive_heeded.new.manager c.phase.result (both (g.A.Link.counts_of c.loop.ipmb) (g.B.Link.counts_of c.loop.smbus))
    (both (g.A.Link.counts_of c.drive_heeded.new.ipmb) (g.B.Link.counts_of c.drive_heeded.new.smbus)) some on
    (subst (λ (stops : Option ℕ). StopsAfter c.args.turns on.state c.drive_heeded.new.manager (Ok stops) (both (g.A.Link.counts_of c.loop.ipmb) (g.B.Link.counts_of c.loop.smbus)) (both (g.A.Link.counts_of c.drive_heeded.new.ipmb) (g.B.Link.counts_of c.drive_heeded.new.smbus))) c.in-Ok-None.field-0-is
    (c.in-Ok-None.ensures.stops on.state on.shown)) (λ t. c.phase.ensures lab_names t)

pub returns-in-Ok-None-clause-seen : goal.returns-in-Ok-None-clause-seen
returns-in-Ok-None-clause-seen g c =
    seen_drives g.T.Observer.sees g.A.Link g.B.Link c.args.manager.now c.loop.manager c.drive_heeded.new.manager c.args.first c.loop.sent (links c.args.ipmb.now c.args.smbus.now) (links c.loop.ipmb c.loop.smbus)
    (links c.drive_heeded.new.ipmb c.drive_heeded.new.smbus) MaySend c.args.watch.now c.loop.watch c.drive_heeded.new.watch c.loop.invariant.1 c.in-Ok-None.ensures.observed

pub returns-in-Err-clause-drives : goal.returns-in-Err-clause-drives
returns-in-Err-clause-drives g c s shows =
    let on = c.loop.invariant.0 s shows in
    let some : c.args.agains - c.loop.counter ≡ suc (c.args.agains - (c.loop.counter + 1)) = omega (arith, c.loop-test.true) in
    kept_over c.args.agains c.args.turns s (both (g.A.Link.counts_of c.args.ipmb.now) (g.B.Link.counts_of c.args.smbus.now)) (c.args.agains - c.loop.counter)
    (c.args.agains - (c.loop.counter + 1)) c.loop.manager c.drive_heeded.new.manager c.in-Err.kept (both (g.A.Link.counts_of c.loop.ipmb) (g.B.Link.counts_of c.loop.smbus))
    (both (g.A.Link.counts_of c.drive_heeded.new.ipmb) (g.B.Link.counts_of c.drive_heeded.new.smbus)) some on (c.in-Err.ensures.stops on.state on.shown)

pub returns-in-Err-clause-seen : goal.returns-in-Err-clause-seen
returns-in-Err-clause-seen g c =
    seen_drives g.T.Observer.sees g.A.Link g.B.Link c.args.manager.now c.loop.manager c.drive_heeded.new.manager c.args.first c.loop.sent (links c.args.ipmb.now c.args.smbus.now) (links c.loop.ipmb c.loop.smbus)
    (links c.drive_heeded.new.ipmb c.drive_heeded.new.smbus) MayNot c.args.watch.now c.loop.watch c.drive_heeded.new.watch c.loop.invariant.1 c.in-Err.ensures.observed

pub returns-in_default-clause-drives : goal.returns-in_default-clause-drives
returns-in_default-clause-drives g c s shows =
    let on = c.loop.invariant.0 s shows in
    let some : c.args.agains - c.loop.counter ≡ suc (c.args.agains - (c.loop.counter + 1)) = omega (arith, c.loop-test.true) in
    let at = stopped c.args.turns c.in-Ok-Some._left on.state c.drive_heeded.new.manager (both (g.A.Link.counts_of c.loop.ipmb) (g.B.Link.counts_of c.loop.smbus))
    (both (g.A.Link.counts_of c.drive_heeded.new.ipmb) (g.B.Link.counts_of c.drive_heeded.new.smbus))
    (subst (λ (stops : Option ℕ). StopsAfter c.args.turns on.state c.drive_heeded.new.manager (Ok stops) (both (g.A.Link.counts_of c.loop.ipmb) (g.B.Link.counts_of c.loop.smbus)) (both (g.A.Link.counts_of c.drive_heeded.new.ipmb) (g.B.Link.counts_of c.drive_heeded.new.smbus))) c.in-Ok-Some.field-0-is
    (c.in-Ok-Some.ensures.stops on.state on.shown)) in
    not_again c.args.agains c.args.turns s (both (g.A.Link.counts_of c.args.ipmb.now) (g.B.Link.counts_of c.args.smbus.now)) (c.args.agains - c.loop.counter)
    (c.args.agains - (c.loop.counter + 1)) c.in-Ok-Some._left c.loop.manager c.drive_heeded.new.manager c.again.new.self c.in_default.field-0 c.phase-in_default.result
    (both (g.A.Link.counts_of c.loop.ipmb) (g.B.Link.counts_of c.loop.smbus)) (both (g.A.Link.counts_of c.drive_heeded.new.ipmb) (g.B.Link.counts_of c.drive_heeded.new.smbus)) some on at
    (c.in_default.ensures lab_names at.drives.last.after at.drives.last.shown) (λ t. c.phase-in_default.ensures lab_names t)

pub returns-in_default-clause-seen : goal.returns-in_default-clause-seen
returns-in_default-clause-seen g c =
    seen_no_more g.T.Observer.sees g.A.Link g.B.Link c.args.manager.now c.drive_heeded.new.manager c.again.new.self c.args.first c.in_default.field-0 (links c.args.ipmb.now c.args.smbus.now)
    (links c.drive_heeded.new.ipmb c.drive_heeded.new.smbus) MaySend c.args.watch.now c.drive_heeded.new.watch
    (seen_drives g.T.Observer.sees g.A.Link g.B.Link c.args.manager.now c.loop.manager c.drive_heeded.new.manager c.args.first c.loop.sent (links c.args.ipmb.now c.args.smbus.now) (links c.loop.ipmb c.loop.smbus)
    (links c.drive_heeded.new.ipmb c.drive_heeded.new.smbus) MaySend c.args.watch.now c.loop.watch c.drive_heeded.new.watch c.loop.invariant.1 c.in-Ok-Some.ensures.observed)
    c.in_default.ensures

pub loop-preserved : goal.loop-preserved
loop-preserved g c = (
  λ s shows.
      let on = c.loop.invariant.0 s shows in
      let some : c.args.agains - c.loop.counter ≡ suc (c.args.agains - (c.loop.counter + 1)) = omega (arith, c.loop-test.true) in
      let at = stopped c.args.turns c.in-Ok-Some._left on.state c.drive_heeded.new.manager (both (g.A.Link.counts_of c.loop.ipmb) (g.B.Link.counts_of c.loop.smbus))
      (both (g.A.Link.counts_of c.drive_heeded.new.ipmb) (g.B.Link.counts_of c.drive_heeded.new.smbus))
      (subst (λ (stops : Option ℕ). StopsAfter c.args.turns on.state c.drive_heeded.new.manager (Ok stops) (both (g.A.Link.counts_of c.loop.ipmb) (g.B.Link.counts_of c.loop.smbus)) (both (g.A.Link.counts_of c.drive_heeded.new.ipmb) (g.B.Link.counts_of c.drive_heeded.new.smbus))) c.in-Ok-Some.field-0-is
      (c.in-Ok-Some.ensures.stops on.state on.shown)) in
      called_again c.args.agains c.args.turns s (both (g.A.Link.counts_of c.args.ipmb.now) (g.B.Link.counts_of c.args.smbus.now)) (c.args.agains - c.loop.counter)
      (c.args.agains - (c.loop.counter + 1)) c.in-Ok-Some._left c.loop.manager c.drive_heeded.new.manager c.again.new.self c.in-Ok.again
      (both (g.A.Link.counts_of c.loop.ipmb) (g.B.Link.counts_of c.loop.smbus)) (both (g.A.Link.counts_of c.drive_heeded.new.ipmb) (g.B.Link.counts_of c.drive_heeded.new.smbus)) some on at
      (c.in-Ok.ensures lab_names at.drives.last.after at.drives.last.shown),
  seen_again g.T.Observer.sees g.A.Link g.B.Link c.args.manager.now c.drive_heeded.new.manager c.again.new.self c.args.first c.in-Ok.again (links c.args.ipmb.now c.args.smbus.now)
      (links c.drive_heeded.new.ipmb c.drive_heeded.new.smbus) c.args.watch.now c.drive_heeded.new.watch
      (seen_drives g.T.Observer.sees g.A.Link g.B.Link c.args.manager.now c.loop.manager c.drive_heeded.new.manager c.args.first c.loop.sent (links c.args.ipmb.now c.args.smbus.now) (links c.loop.ipmb c.loop.smbus)
      (links c.drive_heeded.new.ipmb c.drive_heeded.new.smbus) MaySend c.args.watch.now c.loop.watch c.drive_heeded.new.watch c.loop.invariant.1 c.in-Ok-Some.ensures.observed)
      c.in-Ok.ensures,
)

pub returns-clause-seen : goal.returns-clause-seen
returns-clause-seen g c =
    seen_drives g.T.Observer.sees g.A.Link g.B.Link c.args.manager.now c.loop.manager c.drive_last.new.manager c.args.first c.loop.sent (links c.args.ipmb.now c.args.smbus.now) (links c.loop.ipmb c.loop.smbus)
    (links c.drive_last.new.ipmb c.drive_last.new.smbus) (permit_at c.drive_last.result) c.args.watch.now c.loop.watch c.drive_last.new.watch c.loop.invariant.1
    c.drive_last.ensures.observed
