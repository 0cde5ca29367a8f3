use Rattle.std.proofs.Common.{rules, ℕ, ◌<◌, ◌∷◌, [], ◌∙◌, ◌+◌, ◌≡◌, ap, arith, length, length-append}
use Rattle.std.proofs.lemmas.Option.{slice_get-get_or}
use Rattle.app_change.proofs.Telling.{none_told, told_more}
use Rattle.app_change.proofs.outlooks.foresee_all.Goals as goal

pub loop-place-init : goal.loop-place-init
loop-place-init c = (ap length c.new-outlooks.ensures.items, none_told c.args.steps.now c.args.found.now _ c.new-outlooks.ensures.items)

pub loop-place-preserved : goal.loop-place-preserved
loop-place-preserved c =
    let within : c.loop-place.place < length c.args.found.now = omega arith in
    let at = slice_get-get_or c.args.found.now c.loop-place.place c.index-found-place.result within in (
      ap length c.in_ok-push.ensures.items ∙ length-append c.loop-place.outlooks.items (c.in_ok-one.one ∷ []) ∙ ap (λ (n : ℕ). n + 1) c.loop-place.invariant.0,
      told_more c.args.steps.now c.args.found.now c.loop-place.outlooks.items c.push.new.self.items c.loop-place.place _ c.in_ok-one.one c.loop-place.invariant.0 c.loop-place.invariant.1
          at c.in_ok-one.ensures c.in_ok-push.ensures.items,
    )

pub returns : goal.returns
returns c =
    let full : c.loop-place.place ≡ length c.args.steps.now = search rules in
    record { each_one = c.loop-place.invariant.0 ∙ full; told = c.loop-place.invariant.1 }
