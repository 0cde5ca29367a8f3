use Rattle.std.proofs.Common.{◌++◌, ◌∷◌, [], ◌∙◌, refl, arith}
use Rattle.std.proofs.lemmas.List.{length-append}
use Rattle.bmc_shared.specs.declared.worker.End.TheVariants.{Turns, Full}
use Rattle.bmc_ports.proofs.Slicing.{makes_still, makes_more, ends_so, ends_with_all}
use Rattle.bmc_ports.proofs.slices.serve_slices.Goals as goal

pub loop-init : goal.loop-init
loop-init g c = (([], refl, makes_still g.L.Link c.args.seat.now.calls.items c.args.lane.now), refl, refl)

pub returns-in-Full-clause-goes : goal.returns-in-Full-clause-goes
returns-in-Full-clause-goes g c =
    ends_so g.L.Link Full c.loop.invariant.0.0 c.in-Full.ensures.turn.0 c.args.seat.now.calls.items c.loop.seat.calls.items c.make_turn.new.seat.calls.items
    c.args.lane.now c.loop.lane c.make_turn.new.lane c.loop.invariant.0.2 c.in-Full.ensures.turn.1

pub returns-then-tell-clause-goes : goal.returns-then-tell-clause-goes
returns-then-tell-clause-goes g c =
    ends_so g.L.Link Turns c.loop.invariant.0.0 c.in-Turns.ensures.turn.0 c.args.seat.now.calls.items c.loop.seat.calls.items c.make_turn.new.seat.calls.items
    c.args.lane.now c.loop.lane c.make_turn.new.lane c.loop.invariant.0.2 c.in-Turns.ensures.turn.1

pub loop-preserved : goal.loop-preserved
loop-preserved g c =
    let first = c.loop.invariant.0.0 in
    let heard = c.in-Turns.ensures.turn.0 in
    let count = c.loop.invariant.0.1 in (
      (
        first ++ heard ∷ [],
        omega (arith, length-append first (heard ∷ []), count),
        makes_more g.L.Link Turns first heard c.args.seat.now.calls.items c.loop.seat.calls.items c.make_turn.new.seat.calls.items
            c.args.lane.now c.loop.lane c.make_turn.new.lane c.loop.invariant.0.2 c.in-Turns.ensures.turn.1,
      ),
      c.in-Turns.ensures.mark refl ∙ c.loop.invariant.1,
      c.in-Turns.ensures.number ∙ c.loop.invariant.2,
    )

pub returns-clause-goes : goal.returns-clause-goes
returns-clause-goes g c =
    let count = c.loop.invariant.0.1 in
    ends_with_all g.L.Link c.loop.invariant.0.0 c.args.seat.now.calls.items c.loop.seat.calls.items c.args.lane.now c.loop.lane (omega (arith, count))
    c.loop.invariant.0.2
