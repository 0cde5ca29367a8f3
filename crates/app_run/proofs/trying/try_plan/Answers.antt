use Rattle.std.specs.Prelude.{Option}
use Rattle.std.proofs.Common.{◌≡◌, ◌+◌, ◌-◌, ℕ, suc, Ok, Err, subst, sym, arith}
use Rattle.model_undo.specs.declared.call.Call.TheVariants.{Start}
use Rattle.model_lab.specs.Meaning.{lab_names}
use Rattle.model_lab.specs.ManagerSteps.{board_plans, called}
use Rattle.bmc_ports.specs.Conversation.{links}
use Rattle.bmc_ports.specs.Driving.{both}
use Rattle.bmc_ports.specs.Observing.{MaySend, MayNot, permit_at}
use Rattle.app_run.specs.Driven.{DrivesAgain}
use Rattle.app_run.specs.Stops.{StopsAfter}
use Rattle.app_run.proofs.Courses.{seen_again, seen_called, seen_drives, seen_no_more, seen_starts, seen_uncalled}
use Rattle.app_run.proofs.Driving.{goes_on, rests}
use Rattle.app_run.proofs.Tries.{begins, called_again, ends_over, kept_over, not_again, stopped}
use Rattle.app_run.proofs.trying.try_plan.Goals as goal

pub returns-in-Err-clause-goes : goal.returns-in-Err-clause-goes
returns-in-Err-clause-goes g c before shows =
    rests (DrivesAgain c.args.agains c.args.turns) before c.start.new.self _ c.phase.result _ (called (board_plans lab_names) Start before) (c.in-Err.ensures lab_names before shows)
    (λ s shown. c.phase.ensures lab_names s shown)

pub returns-in-Err-clause-seen : goal.returns-in-Err-clause-seen
returns-in-Err-clause-seen g c =
    seen_uncalled g.T.Observer.sees g.A.Link g.B.Link Start c.args.manager.now c.start.new.self c.in-Err.field-0 (links c.args.ipmb.now c.args.smbus.now) c.args.watch.now c.in-Err.ensures

pub loop-init : goal.loop-init
loop-init g c = record {
  started = c.start.new.self;
  first = c.in-Ok.first;
  calls = c.in-Ok.ensures;
  goes = λ s shows. begins c.args.agains _ c.args.turns s c.start.new.self (both (g.A.Link.counts_of c.args.ipmb.now) (g.B.Link.counts_of c.args.smbus.now)) (omega arith) shows;
  seen = seen_starts g.T.Observer.sees g.A.Link g.B.Link c.start.new.self c.in-Ok.first (links c.args.ipmb.now c.args.smbus.now) c.args.watch.now;
}

pub returns-in-Ok-None-clause-goes : goal.returns-in-Ok-None-clause-goes
returns-in-Ok-None-clause-goes g c before shows =
    let on_way = c.loop.invariant in
    goes_on (DrivesAgain c.args.agains c.args.turns) before on_way.started c.drive_heeded.new.manager on_way.first (Ok c.phase-in-Ok-None.result) _ _ (called (board_plans lab_names) Start before) (on_way.calls lab_names before shows)
    (λ s shows.
    let on = c.loop.invariant.goes s shows in
    let some : c.args.agains - c.loop.counter ≡ suc (c.args.agains - (c.loop.counter + 1)) = omega (arith, c.loop-test.true) in
    ends_over c.args.agains c.args.turns s (both (g.A.Link.counts_of c.args.ipmb.now) (g.B.Link.counts_of c.args.smbus.now)) (c.args.agains - c.loop.counter)
    (c.args.agains - (c.loop.counter + 1)) c.loop.left c.loop.manager c.drive_heeded.new.manager c.phase-in-Ok-None.result (both (g.A.Link.counts_of c.loop.ipmb) (g.B.Link.counts_of c.loop.smbus))
    (both (g.A.Link.counts_of c.drive_heeded.new.ipmb) (g.B.Link.counts_of c.drive_heeded.new.smbus)) some on
    (subst (λ (stops : Option ℕ). StopsAfter c.loop.left on.state c.drive_heeded.new.manager (Ok stops) (both (g.A.Link.counts_of c.loop.ipmb) (g.B.Link.counts_of c.loop.smbus)) (both (g.A.Link.counts_of c.drive_heeded.new.ipmb) (g.B.Link.counts_of c.drive_heeded.new.smbus))) c.in-Ok-None.field-0-is
    (c.in-Ok-None.ensures.stops on.state on.shown)) (λ t. c.phase-in-Ok-None.ensures lab_names t))

pub returns-in-Ok-None-clause-seen : goal.returns-in-Ok-None-clause-seen
returns-in-Ok-None-clause-seen g c =
    let on_way = c.loop.invariant in
    seen_called g.T.Observer.sees g.A.Link g.B.Link Start c.args.manager.now on_way.started c.drive_heeded.new.manager on_way.first (links c.args.ipmb.now c.args.smbus.now)
    (links c.drive_heeded.new.ipmb c.drive_heeded.new.smbus) MaySend c.args.watch.now c.drive_heeded.new.watch on_way.calls
    (seen_drives g.T.Observer.sees g.A.Link g.B.Link on_way.started c.loop.manager c.drive_heeded.new.manager on_way.first c.loop.sent (links c.args.ipmb.now c.args.smbus.now) (links c.loop.ipmb c.loop.smbus)
    (links c.drive_heeded.new.ipmb c.drive_heeded.new.smbus) MaySend c.args.watch.now c.loop.watch c.drive_heeded.new.watch on_way.seen c.in-Ok-None.ensures.observed)

pub returns-in-Err-drive_heeded-clause-goes : goal.returns-in-Err-drive_heeded-clause-goes
returns-in-Err-drive_heeded-clause-goes g c before shows =
    let on_way = c.loop.invariant in
    goes_on (DrivesAgain c.args.agains c.args.turns) before on_way.started c.drive_heeded.new.manager on_way.first (Err c.in-Err-drive_heeded.kept) _ _ (called (board_plans lab_names) Start before) (on_way.calls lab_names before shows)
    (λ s shows.
    let on = c.loop.invariant.goes s shows in
    let some : c.args.agains - c.loop.counter ≡ suc (c.args.agains - (c.loop.counter + 1)) = omega (arith, c.loop-test.true) in
    kept_over c.args.agains c.args.turns s (both (g.A.Link.counts_of c.args.ipmb.now) (g.B.Link.counts_of c.args.smbus.now)) (c.args.agains - c.loop.counter)
    (c.args.agains - (c.loop.counter + 1)) c.loop.left c.loop.manager c.drive_heeded.new.manager c.in-Err-drive_heeded.kept (both (g.A.Link.counts_of c.loop.ipmb) (g.B.Link.counts_of c.loop.smbus))
    (both (g.A.Link.counts_of c.drive_heeded.new.ipmb) (g.B.Link.counts_of c.drive_heeded.new.smbus)) some on (c.in-Err-drive_heeded.ensures.stops on.state on.shown))

pub returns-in-Err-drive_heeded-clause-seen : goal.returns-in-Err-drive_heeded-clause-seen
returns-in-Err-drive_heeded-clause-seen g c =
    let on_way = c.loop.invariant in
    seen_called g.T.Observer.sees g.A.Link g.B.Link Start c.args.manager.now on_way.started c.drive_heeded.new.manager on_way.first (links c.args.ipmb.now c.args.smbus.now)
    (links c.drive_heeded.new.ipmb c.drive_heeded.new.smbus) MayNot c.args.watch.now c.drive_heeded.new.watch on_way.calls
    (seen_drives g.T.Observer.sees g.A.Link g.B.Link on_way.started c.loop.manager c.drive_heeded.new.manager on_way.first c.loop.sent (links c.args.ipmb.now c.args.smbus.now) (links c.loop.ipmb c.loop.smbus)
    (links c.drive_heeded.new.ipmb c.drive_heeded.new.smbus) MayNot c.args.watch.now c.loop.watch c.drive_heeded.new.watch on_way.seen c.in-Err-drive_heeded.ensures.observed)

pub returns-in_default-clause-goes : goal.returns-in_default-clause-goes
returns-in_default-clause-goes g c before shows =
    let on_way = c.loop.invariant in
    goes_on (DrivesAgain c.args.agains c.args.turns) before on_way.started c.again.new.self on_way.first (Ok c.phase-in_default.result) _ _ (called (board_plans lab_names) Start before) (on_way.calls lab_names before shows)
    (λ s shows.
    let on = c.loop.invariant.goes s shows in
    let some : c.args.agains - c.loop.counter ≡ suc (c.args.agains - (c.loop.counter + 1)) = omega (arith, c.loop-test.true) in
    let at = stopped c.loop.left c.in-Ok-Some.rest on.state c.drive_heeded.new.manager (both (g.A.Link.counts_of c.loop.ipmb) (g.B.Link.counts_of c.loop.smbus))
    (both (g.A.Link.counts_of c.drive_heeded.new.ipmb) (g.B.Link.counts_of c.drive_heeded.new.smbus))
    (subst (λ (stops : Option ℕ). StopsAfter c.loop.left on.state c.drive_heeded.new.manager (Ok stops) (both (g.A.Link.counts_of c.loop.ipmb) (g.B.Link.counts_of c.loop.smbus)) (both (g.A.Link.counts_of c.drive_heeded.new.ipmb) (g.B.Link.counts_of c.drive_heeded.new.smbus))) c.in-Ok-Some.field-0-is
    (c.in-Ok-Some.ensures.stops on.state on.shown)) in
    not_again c.args.agains c.args.turns s (both (g.A.Link.counts_of c.args.ipmb.now) (g.B.Link.counts_of c.args.smbus.now)) (c.args.agains - c.loop.counter)
    (c.args.agains - (c.loop.counter + 1)) c.loop.left c.in-Ok-Some.rest c.loop.manager c.drive_heeded.new.manager c.again.new.self c.in_default.field-0 c.phase-in_default.result
    (both (g.A.Link.counts_of c.loop.ipmb) (g.B.Link.counts_of c.loop.smbus)) (both (g.A.Link.counts_of c.drive_heeded.new.ipmb) (g.B.Link.counts_of c.drive_heeded.new.smbus)) some on at
    (c.in_default.ensures lab_names at.drives.last.after at.drives.last.shown) (λ t. c.phase-in_default.ensures lab_names t))

pub returns-in_default-clause-seen : goal.returns-in_default-clause-seen
returns-in_default-clause-seen g c =
    let on_way = c.loop.invariant in
    seen_called g.T.Observer.sees g.A.Link g.B.Link Start c.args.manager.now on_way.started c.again.new.self on_way.first (links c.args.ipmb.now c.args.smbus.now)
    (links c.drive_heeded.new.ipmb c.drive_heeded.new.smbus) MaySend c.args.watch.now c.drive_heeded.new.watch on_way.calls
    (seen_no_more g.T.Observer.sees g.A.Link g.B.Link on_way.started c.drive_heeded.new.manager c.again.new.self on_way.first c.in_default.field-0 (links c.args.ipmb.now c.args.smbus.now)
    (links c.drive_heeded.new.ipmb c.drive_heeded.new.smbus) MaySend c.args.watch.now c.drive_heeded.new.watch
    (seen_drives g.T.Observer.sees g.A.Link g.B.Link on_way.started c.loop.manager c.drive_heeded.new.manager on_way.first c.loop.sent (links c.args.ipmb.now c.args.smbus.now) (links c.loop.ipmb c.loop.smbus)
    (links c.drive_heeded.new.ipmb c.drive_heeded.new.smbus) MaySend c.args.watch.now c.loop.watch c.drive_heeded.new.watch on_way.seen c.in-Ok-Some.ensures.observed)
    c.in_default.ensures)

pub loop-preserved : goal.loop-preserved
loop-preserved g c =
    let on_way = c.loop.invariant in
    record {
      started = on_way.started;
      first = on_way.first;
      calls = on_way.calls;
      goes = λ s shows.
          let on = c.loop.invariant.goes s shows in
          let some : c.args.agains - c.loop.counter ≡ suc (c.args.agains - (c.loop.counter + 1)) = omega (arith, c.loop-test.true) in
          let at = stopped c.loop.left c.in-Ok-Some.rest on.state c.drive_heeded.new.manager (both (g.A.Link.counts_of c.loop.ipmb) (g.B.Link.counts_of c.loop.smbus))
          (both (g.A.Link.counts_of c.drive_heeded.new.ipmb) (g.B.Link.counts_of c.drive_heeded.new.smbus))
          (subst (λ (stops : Option ℕ). StopsAfter c.loop.left on.state c.drive_heeded.new.manager (Ok stops) (both (g.A.Link.counts_of c.loop.ipmb) (g.B.Link.counts_of c.loop.smbus)) (both (g.A.Link.counts_of c.drive_heeded.new.ipmb) (g.B.Link.counts_of c.drive_heeded.new.smbus))) c.in-Ok-Some.field-0-is
          (c.in-Ok-Some.ensures.stops on.state on.shown)) in
          called_again c.args.agains c.args.turns s (both (g.A.Link.counts_of c.args.ipmb.now) (g.B.Link.counts_of c.args.smbus.now)) (c.args.agains - c.loop.counter)
          (c.args.agains - (c.loop.counter + 1)) c.loop.left c.in-Ok-Some.rest c.loop.manager c.drive_heeded.new.manager c.again.new.self c.in-Ok-again.again
          (both (g.A.Link.counts_of c.loop.ipmb) (g.B.Link.counts_of c.loop.smbus)) (both (g.A.Link.counts_of c.drive_heeded.new.ipmb) (g.B.Link.counts_of c.drive_heeded.new.smbus)) some on at
          (c.in-Ok-again.ensures lab_names at.drives.last.after at.drives.last.shown);
      seen = seen_again g.T.Observer.sees g.A.Link g.B.Link on_way.started c.drive_heeded.new.manager c.again.new.self on_way.first c.in-Ok-again.again (links c.args.ipmb.now c.args.smbus.now)
          (links c.drive_heeded.new.ipmb c.drive_heeded.new.smbus) c.args.watch.now c.drive_heeded.new.watch
          (seen_drives g.T.Observer.sees g.A.Link g.B.Link on_way.started c.loop.manager c.drive_heeded.new.manager on_way.first c.loop.sent (links c.args.ipmb.now c.args.smbus.now) (links c.loop.ipmb c.loop.smbus)
          (links c.drive_heeded.new.ipmb c.drive_heeded.new.smbus) MaySend c.args.watch.now c.loop.watch c.drive_heeded.new.watch on_way.seen c.in-Ok-Some.ensures.observed)
          c.in-Ok-again.ensures;
    }

pub returns-clause-goes : goal.returns-clause-goes
returns-clause-goes g c before shows =
    let on_way = c.loop.invariant in
    goes_on (DrivesAgain c.args.agains c.args.turns) before on_way.started c.drive_observed.new.manager on_way.first c.drive_observed.result _ _ (called (board_plans lab_names) Start before)
    (on_way.calls lab_names before shows) (λ s shows.
    let on = on_way.goes s shows in
    let none : c.args.agains - c.loop.counter ≡ 0 = omega (arith, c.loop-test.false) in
    on.rest c.drive_observed.new.manager c.drive_observed.result (both (g.A.Link.counts_of c.drive_observed.new.ipmb) (g.B.Link.counts_of c.drive_observed.new.smbus))
    (subst (λ (n : ℕ). DrivesAgain n c.loop.left on.state c.drive_observed.new.manager c.drive_observed.result (both (g.A.Link.counts_of c.loop.ipmb) (g.B.Link.counts_of c.loop.smbus)) (both (g.A.Link.counts_of c.drive_observed.new.ipmb) (g.B.Link.counts_of c.drive_observed.new.smbus))) (sym none)
    (c.drive_observed.ensures.drives lab_names on.state on.shown)))

pub returns-clause-seen : goal.returns-clause-seen
returns-clause-seen g c =
    let on_way = c.loop.invariant in
    seen_called g.T.Observer.sees g.A.Link g.B.Link Start c.args.manager.now on_way.started c.drive_observed.new.manager on_way.first (links c.args.ipmb.now c.args.smbus.now)
    (links c.drive_observed.new.ipmb c.drive_observed.new.smbus) (permit_at c.drive_observed.result) c.args.watch.now c.drive_observed.new.observer on_way.calls
    (seen_drives g.T.Observer.sees g.A.Link g.B.Link on_way.started c.loop.manager c.drive_observed.new.manager on_way.first c.loop.sent (links c.args.ipmb.now c.args.smbus.now) (links c.loop.ipmb c.loop.smbus)
    (links c.drive_observed.new.ipmb c.drive_observed.new.smbus) (permit_at c.drive_observed.result) c.args.watch.now c.loop.watch c.drive_observed.new.observer on_way.seen
    c.drive_observed.ensures.observed)
