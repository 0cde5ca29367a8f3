use Rattle.std.proofs.Common.{◌≡◌, ◌&&◌, ◌||◌, ◌==◌, nat_lt, ap, sym, ◌∙◌, arith}
use Rattle.toml.specs.View.{table_view}
use Rattle.plan_file.specs.Kinds.Thresholds.{is_given}
use Rattle.plan_file.proofs.Changes.{has_none, none_below, below_more, six_given}
use Rattle.plan_file.proofs.kind.thresholds.given.Goals as goal

pub loop-place-init : goal.loop-place-init
loop-place-init c = λ place. has_none place ∙ sym (none_below place (is_given (table_view c.args.step.now)))

pub loop-place-preserved : goal.loop-place-preserved
loop-place-preserved c = λ place.
    let tree = table_view c.args.step.now in
    c.with_given-mask.ensures place
    ∙ ap (λ b. b || ((c.loop-place.place == place) && is_given tree c.loop-place.place)) (c.loop-place.invariant place)
    ∙ below_more place c.loop-place.place (is_given tree)

pub returns : goal.returns
returns c = λ place.
    let tree = table_view c.args.step.now in
    let end : c.loop-place.place ≡ 6 = omega arith in
    c.loop-place.invariant place ∙ ap (λ n. nat_lt place n && is_given tree place) end ∙ six_given tree place
