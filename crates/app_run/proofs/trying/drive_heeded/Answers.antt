use Rattle.std.proofs.Common.{◌∙◌, ◌-◌, inr, sym, Ok, Err, arith}
use Rattle.model_lab.specs.Meaning.{lab_names}
use Rattle.bmc_ports.specs.Conversation.{frames_given, links}
use Rattle.bmc_ports.specs.Driving.{both}
use Rattle.bmc_ports.specs.Observing.{MaySend, MayNot, permit_for}
use Rattle.bmc_ports.proofs.Observers.{then_seen}
use Rattle.app_run.proofs.Tries.{closed_after, goes_one_more, one_more}
use Rattle.app_run.proofs.trying.drive_heeded.Goals as goal

pub returns-in-Ok-clause-stops : goal.returns-in-Ok-clause-stops
returns-in-Ok-clause-stops g c s shows =
    let going = c.loop-made.invariant.0 s shows in (
      c.loop-made.made,
      c.in-Ok.phase,
      omega arith,
      omega arith,
      one_more (c.loop-made.made - 1) c.loop-made.made s c.loop-made.manager c.drive_observed-in-loop-made.new.manager (Ok c.in-Ok.phase) (both (g.A.Link.counts_of c.args.ipmb.now) (g.B.Link.counts_of c.args.smbus.now))
          (both (g.A.Link.counts_of c.loop-made.ipmb) (g.B.Link.counts_of c.loop-made.smbus)) (both (g.A.Link.counts_of c.drive_observed-in-loop-made.new.ipmb) (g.B.Link.counts_of c.drive_observed-in-loop-made.new.smbus)) (omega arith) going
          (c.in-Ok.ensures.drives lab_names going.drives.after going.drives.shown),
      sym c.is_unsettled.ensures ∙ c.if-is_unsettled.true,
    )

pub returns-in-Ok-clause-observed : goal.returns-in-Ok-clause-observed
returns-in-Ok-clause-observed g c =
    then_seen g.T.Observer.sees g.A.Link g.B.Link (permit_for (frames_given c.args.first)) MaySend c.args.first c.args.manager.now c.loop-made.manager c.drive_observed-in-loop-made.new.manager
    (links c.args.ipmb.now c.args.smbus.now) (links c.loop-made.ipmb c.loop-made.smbus) (links c.drive_observed-in-loop-made.new.ipmb c.drive_observed-in-loop-made.new.smbus) c.args.watch.now c.loop-made.watch c.drive_observed-in-loop-made.new.observer
    c.loop-made.invariant.1 c.in-Ok.ensures.observed

pub returns-in-Err-drive_observed-clause-stops : goal.returns-in-Err-drive_observed-clause-stops
returns-in-Err-drive_observed-clause-stops g c s shows =
    let going = c.loop-made.invariant.0 s shows in
    inr (
      c.loop-made.made,
      omega arith,
      one_more (c.loop-made.made - 1) c.loop-made.made s c.loop-made.manager c.drive_observed-in-loop-made.new.manager (Err c.in-Err-drive_observed.kept) (both (g.A.Link.counts_of c.args.ipmb.now) (g.B.Link.counts_of c.args.smbus.now))
          (both (g.A.Link.counts_of c.loop-made.ipmb) (g.B.Link.counts_of c.loop-made.smbus)) (both (g.A.Link.counts_of c.drive_observed-in-loop-made.new.ipmb) (g.B.Link.counts_of c.drive_observed-in-loop-made.new.smbus)) (omega arith) going
          (c.in-Err-drive_observed.ensures.drives lab_names going.drives.after going.drives.shown),
    )

pub returns-in-Err-drive_observed-clause-observed : goal.returns-in-Err-drive_observed-clause-observed
returns-in-Err-drive_observed-clause-observed g c =
    then_seen g.T.Observer.sees g.A.Link g.B.Link (permit_for (frames_given c.args.first)) MayNot c.args.first c.args.manager.now c.loop-made.manager c.drive_observed-in-loop-made.new.manager
    (links c.args.ipmb.now c.args.smbus.now) (links c.loop-made.ipmb c.loop-made.smbus) (links c.drive_observed-in-loop-made.new.ipmb c.drive_observed-in-loop-made.new.smbus) c.args.watch.now c.loop-made.watch c.drive_observed-in-loop-made.new.observer
    c.loop-made.invariant.1 c.in-Err-drive_observed.ensures.observed

pub returns-in_default-open_bus-clause-stops : goal.returns-in_default-open_bus-clause-stops
returns-in_default-open_bus-clause-stops g c s shows =
    let going = c.loop-made.invariant.0 s shows in (
      c.in-Ok.phase,
      closed_after (c.loop-made.made - 1) c.loop-made.made c.args.turns s c.loop-made.manager c.drive_observed-in-loop-made.new.manager c.in-Ok.phase
          (both (g.A.Link.counts_of c.args.ipmb.now) (g.B.Link.counts_of c.args.smbus.now)) (both (g.A.Link.counts_of c.loop-made.ipmb) (g.B.Link.counts_of c.loop-made.smbus))
          (both (g.A.Link.counts_of c.drive_observed-in-loop-made.new.ipmb) (g.B.Link.counts_of c.drive_observed-in-loop-made.new.smbus)) (omega arith) (omega arith) going
          (c.in-Ok.ensures.drives lab_names going.drives.after going.drives.shown) (sym c.is_unsettled.ensures ∙ c.if-is_unsettled.false)
          (λ t shown. sym (c.in_default-open_bus.ensures lab_names t shown)),
    )

pub returns-in_default-open_bus-clause-observed : goal.returns-in_default-open_bus-clause-observed
returns-in_default-open_bus-clause-observed g c =
    then_seen g.T.Observer.sees g.A.Link g.B.Link (permit_for (frames_given c.args.first)) MaySend c.args.first c.args.manager.now c.loop-made.manager c.drive_observed-in-loop-made.new.manager
    (links c.args.ipmb.now c.args.smbus.now) (links c.loop-made.ipmb c.loop-made.smbus) (links c.drive_observed-in-loop-made.new.ipmb c.drive_observed-in-loop-made.new.smbus) c.args.watch.now c.loop-made.watch c.drive_observed-in-loop-made.new.observer
    c.loop-made.invariant.1 c.in-Ok.ensures.observed

pub loop-made-preserved : goal.loop-made-preserved
loop-made-preserved g c = (
  λ s shows.
      let going = c.loop-made.invariant.0 s shows in
      goes_one_more (c.loop-made.made - 1) _ s c.loop-made.manager c.drive_observed-in-loop-made.new.manager c.in-Ok.phase (both (g.A.Link.counts_of c.args.ipmb.now) (g.B.Link.counts_of c.args.smbus.now))
      (both (g.A.Link.counts_of c.loop-made.ipmb) (g.B.Link.counts_of c.loop-made.smbus)) (both (g.A.Link.counts_of c.drive_observed-in-loop-made.new.ipmb) (g.B.Link.counts_of c.drive_observed-in-loop-made.new.smbus))
      (omega arith) going (c.in-Ok.ensures.drives lab_names going.drives.after going.drives.shown) (sym c.is_unsettled.ensures ∙ c.if-is_unsettled.false),
  then_seen g.T.Observer.sees g.A.Link g.B.Link (permit_for (frames_given c.args.first)) MaySend c.args.first c.args.manager.now c.loop-made.manager c.drive_observed-in-loop-made.new.manager
      (links c.args.ipmb.now c.args.smbus.now) (links c.loop-made.ipmb c.loop-made.smbus) (links c.drive_observed-in-loop-made.new.ipmb c.drive_observed-in-loop-made.new.smbus) c.args.watch.now c.loop-made.watch c.drive_observed-in-loop-made.new.observer
      c.loop-made.invariant.1 c.in-Ok.ensures.observed,
)

pub returns-in-Ok-drive_observed-clause-stops : goal.returns-in-Ok-drive_observed-clause-stops
returns-in-Ok-drive_observed-clause-stops g c s shows =
    let going = c.loop-made.invariant.0 s shows in (
      c.in-Ok-drive_observed.field-0,
      inr (one_more (c.loop-made.made - 1) c.args.turns s c.loop-made.manager c.drive_observed-2.new.manager (Ok c.in-Ok-drive_observed.field-0) (both (g.A.Link.counts_of c.args.ipmb.now) (g.B.Link.counts_of c.args.smbus.now))
          (both (g.A.Link.counts_of c.loop-made.ipmb) (g.B.Link.counts_of c.loop-made.smbus)) (both (g.A.Link.counts_of c.drive_observed-2.new.ipmb) (g.B.Link.counts_of c.drive_observed-2.new.smbus)) (omega arith) going
          (c.in-Ok-drive_observed.ensures.drives lab_names going.drives.after going.drives.shown)),
    )

pub returns-in-Ok-drive_observed-clause-observed : goal.returns-in-Ok-drive_observed-clause-observed
returns-in-Ok-drive_observed-clause-observed g c =
    then_seen g.T.Observer.sees g.A.Link g.B.Link (permit_for (frames_given c.args.first)) MaySend c.args.first c.args.manager.now c.loop-made.manager c.drive_observed-2.new.manager
    (links c.args.ipmb.now c.args.smbus.now) (links c.loop-made.ipmb c.loop-made.smbus) (links c.drive_observed-2.new.ipmb c.drive_observed-2.new.smbus) c.args.watch.now c.loop-made.watch c.drive_observed-2.new.observer
    c.loop-made.invariant.1 c.in-Ok-drive_observed.ensures.observed

pub returns-in-Err-drive_observed-2-clause-stops : goal.returns-in-Err-drive_observed-2-clause-stops
returns-in-Err-drive_observed-2-clause-stops g c s shows =
    let going = c.loop-made.invariant.0 s shows in
    inr (
      c.args.turns,
      omega arith,
      one_more (c.loop-made.made - 1) c.args.turns s c.loop-made.manager c.drive_observed-2.new.manager (Err c.in-Err-drive_observed-2.kept) (both (g.A.Link.counts_of c.args.ipmb.now) (g.B.Link.counts_of c.args.smbus.now))
          (both (g.A.Link.counts_of c.loop-made.ipmb) (g.B.Link.counts_of c.loop-made.smbus)) (both (g.A.Link.counts_of c.drive_observed-2.new.ipmb) (g.B.Link.counts_of c.drive_observed-2.new.smbus)) (omega arith) going
          (c.in-Err-drive_observed-2.ensures.drives lab_names going.drives.after going.drives.shown),
    )

pub returns-in-Err-drive_observed-2-clause-observed : goal.returns-in-Err-drive_observed-2-clause-observed
returns-in-Err-drive_observed-2-clause-observed g c =
    then_seen g.T.Observer.sees g.A.Link g.B.Link (permit_for (frames_given c.args.first)) MayNot c.args.first c.args.manager.now c.loop-made.manager c.drive_observed-2.new.manager
    (links c.args.ipmb.now c.args.smbus.now) (links c.loop-made.ipmb c.loop-made.smbus) (links c.drive_observed-2.new.ipmb c.drive_observed-2.new.smbus) c.args.watch.now c.loop-made.watch c.drive_observed-2.new.observer
    c.loop-made.invariant.1 c.in-Err-drive_observed-2.ensures.observed
