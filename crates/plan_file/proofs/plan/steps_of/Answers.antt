use Rattle.std.proofs.Common.{◌≡◌, ℕ, ◌+◌, ◌∷◌, [], ◌++◌, inr, ◌∙◌, ap, length-append}
use Rattle.std.proofs.lemmas.Result.{err_from_is_err_and}
use Rattle.plan_file.proofs.Steps.{next_step, left_after, next_counts}
use Rattle.plan_file.proofs.plan.steps_of.Goals as goal

pub returns-in_err-op-clause-err : goal.returns-in_err-op-clause-err
returns-in_err-op-clause-err c =
    let p = err_from_is_err_and c.from_residual.result c.from_residual.ensures.1 in
    let why = c.in_err-op.field-0.0 in
    let counts = next_counts c.args.values.now c.loop-place.place c.index-values-place.result c.loop-place-test.true c.index-values-place.is why c.in_err-op.ensures.err in
    rw (p.1, p.2, c.loop-place.invariant.left) (inr counts)

pub loop-place-preserved : goal.loop-place-preserved
loop-place-preserved c =
    let values = c.args.values.now in
    let i = c.loop-place.place in
    let v = c.index-values-place.result in
    let op = c.in_ok-op.op in
    let pushed : c.push.new.self ≡ c.loop-place.steps ++ op ∷ [] = c.in-Ok.ensures.added in
    rw pushed (record {
      zip = next_step values i v c.loop-place-test.true c.index-values-place.is c.loop-place.steps op c.loop-place.invariant.zip c.in_ok-op.ensures.held;
      left = c.loop-place.invariant.left ∙ left_after values i v c.loop-place-test.true c.index-values-place.is c.in_ok-op.ensures.sound;
      count = length-append c.loop-place.steps (op ∷ []) ∙ ap (λ (n : ℕ). n + 1) c.loop-place.invariant.count;
    })
