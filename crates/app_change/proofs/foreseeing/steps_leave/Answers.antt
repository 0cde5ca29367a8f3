use Rattle.std.proofs.Common.{rules, ◌∙◌, ◌<◌, length, ap}
use Rattle.app_change.specs.Foreseeing.{left_by}
use Rattle.app_change.proofs.Steps.{left_next}
use Rattle.app_change.proofs.foreseeing.steps_leave.Goals as goal

pub loop-place-preserved : goal.loop-place-preserved
loop-place-preserved c =
    let within : c.loop-place.place < length c.args.steps.now = search rules in
    left_next c.args.key.now c.args.steps.now c.loop-place.place c.args.shown.now c.loop-place.left.items c.in_ok-left-2.left.items within c.loop-place.invariant
    (λ op here. c.in_ok-left-2.ensures op here ∙ ap (left_by c.args.key.now op) c.as_slice.ensures.value)
