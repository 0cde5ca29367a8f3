use Rattle.std.specs.Prelude.{Some}
use Rattle.std.proofs.Common.{ℕ, List, subst}
use Rattle.bmc_shared.specs.declared.worker.End.TheVariants.{Turns, Full}
use Rattle.bmc_shared.specs.Serving.{StepOver}
use Rattle.bmc_shared.proofs.Turning.{heard_none, taken}
use Rattle.bmc_shared.proofs.worker.turn.Goals as goal

pub returns-in_default-clause-made : goal.returns-in_default-clause-made
returns-in_default-clause-made g c =
    heard_none g.L.Link c.args.port.now c.args.seat.now.calls.items c.args.link.now c.hear_next.new.link c.in_default.ensures.gives c.in_default.ensures.counts

pub returns-in-Ok-clause-made : goal.returns-in-Ok-clause-made
returns-in-Ok-clause-made g c =
    taken g.L.Link Turns c.in-Some.frame c.args.port.now c.take_frame.new.port c.args.seat.now.calls.items c.take_frame.new.seat.calls.items
    c.args.link.now c.hear_next.new.link c.take_frame.new.link c.in-Some.ensures.gives c.in-Some.ensures.counts c.in-Ok.ensures.calls c.in-Ok.ensures.heard
    (subst (λ (frame : List ℕ). StepOver g.L.Link Turns (Some frame) c.args.port.now c.take_frame.new.port c.args.seat.now.calls.items c.take_frame.new.seat.calls.items
    c.hear_next.new.link c.take_frame.new.link) c.as_slice.ensures.value c.in-Ok.ensures.takes)

pub returns-in-Err-clause-made : goal.returns-in-Err-clause-made
returns-in-Err-clause-made g c =
    taken g.L.Link Full c.in-Some.frame c.args.port.now c.take_frame.new.port c.args.seat.now.calls.items c.take_frame.new.seat.calls.items
    c.args.link.now c.hear_next.new.link c.take_frame.new.link c.in-Some.ensures.gives c.in-Some.ensures.counts c.in-Err.ensures.calls c.in-Err.ensures.heard
    (subst (λ (frame : List ℕ). StepOver g.L.Link Full (Some frame) c.args.port.now c.take_frame.new.port c.args.seat.now.calls.items c.take_frame.new.seat.calls.items
    c.hear_next.new.link c.take_frame.new.link) c.as_slice.ensures.value c.in-Err.ensures.takes)
