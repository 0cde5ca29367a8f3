use Rattle.std.proofs.Common.{◌+◌, ◌∙◌, refl}
use Rattle.bmc_shared.specs.declared.worker.End.TheVariants.{Turns, Full}
use Rattle.bmc_shared.proofs.Turning.{idle, works_on, full_early, all_made, one_more_turn, one_more_over, ends_over, all_over}
use Rattle.bmc_shared.proofs.worker.serve_port.Goals as goal

pub loop-init : goal.loop-init
loop-init g c = (idle c.args.port.now c.args.seat.now.calls.items (g.L.Link.counts_of c.args.link.now), (refl, refl, refl), refl, refl, refl)

pub loop-preserved : goal.loop-preserved
loop-preserved g c = (
  works_on Turns c.loop.counter c.args.port.now c.loop.port c.work_once.new.port c.args.seat.now.calls.items c.loop.seat.calls.items c.work_once.new.seat.calls.items
      (g.L.Link.counts_of c.args.link.now) (g.L.Link.counts_of c.loop.link) (g.L.Link.counts_of c.work_once.new.link)
      c.loop.invariant.0 c.in-Turns.ensures.worked,
  one_more_over g.L.Link c.loop.counter c.args.port.now c.loop.port c.work_once.new.port c.args.seat.now.calls.items c.loop.seat.calls.items c.work_once.new.seat.calls.items
      c.args.link.now c.loop.link c.work_once.new.link c.loop.invariant.1 c.in-Turns.ensures.over,
  c.in-Turns.ensures.mark refl ∙ c.loop.invariant.2,
  c.in-Turns.ensures.number ∙ c.loop.invariant.3,
  c.in-Turns.ensures.bus ∙ c.loop.invariant.4,
)

pub returns-in-Full-clause-worked : goal.returns-in-Full-clause-worked
returns-in-Full-clause-worked g c =
    full_early (c.loop.counter + 1) c.args.turns c.args.port.now c.work_once.new.port c.args.seat.now.calls.items c.work_once.new.seat.calls.items
    (g.L.Link.counts_of c.args.link.now) (g.L.Link.counts_of c.work_once.new.link) (one_more_turn c.loop.counter c.args.turns c.loop-test.true)
    (works_on Full c.loop.counter c.args.port.now c.loop.port c.work_once.new.port c.args.seat.now.calls.items c.loop.seat.calls.items c.work_once.new.seat.calls.items
    (g.L.Link.counts_of c.args.link.now) (g.L.Link.counts_of c.loop.link) (g.L.Link.counts_of c.work_once.new.link)
    c.loop.invariant.0 c.in-Full.ensures.worked)

pub returns-in-Full-clause-over : goal.returns-in-Full-clause-over
returns-in-Full-clause-over g c =
    ends_over g.L.Link c.loop.counter c.args.turns c.args.port.now c.loop.port c.work_once.new.port c.args.seat.now.calls.items c.loop.seat.calls.items
    c.work_once.new.seat.calls.items c.args.link.now c.loop.link c.work_once.new.link c.loop-test.true c.loop.invariant.1 c.in-Full.ensures.over

pub returns-clause-worked : goal.returns-clause-worked
returns-clause-worked g c =
    all_made c.loop.counter c.args.turns c.args.port.now c.loop.port c.args.seat.now.calls.items c.loop.seat.calls.items
    (g.L.Link.counts_of c.args.link.now) (g.L.Link.counts_of c.loop.link) c.loop.auto.counter-end c.loop-test.false c.loop.invariant.0

pub returns-clause-over : goal.returns-clause-over
returns-clause-over g c =
    all_over g.L.Link c.loop.counter c.args.turns c.args.port.now c.loop.port c.args.seat.now.calls.items c.loop.seat.calls.items
    c.args.link.now c.loop.link c.loop.auto.counter-end c.loop-test.false c.loop.invariant.1
