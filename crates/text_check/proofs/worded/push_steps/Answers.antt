use Rattle.std.proofs.Common.{◌≡◌, ◌∙◌, ℕ, List, add-one, arith, length, refl, string_bytes, subst, sym, take}
use Rattle.std.specs.List.{enumerate_from}
use Rattle.std.proofs.lemmas.List.{take_all}
use Rattle.std.proofs.lemmas.List.FromFn.{length-enumerate_from}
use Rattle.record_base.specs.declared.op.Op.{Op}
use Rattle.text_check.specs.Telling.{Tells}
use Rattle.text_check.specs.Worded.{IsStepLine, step_line}
use Rattle.text_check.proofs.Lined.{Say, tells_next, tells_none}
use Rattle.text_check.proofs.worded.push_steps.Goals as goal

pub loop-place-init : goal.loop-place-init
loop-place-init c = (omega arith, tells_none (IsStepLine c.args.name.now) (string_bytes c.args.text.now))

pub loop-place-preserved : goal.loop-place-preserved
loop-place-preserved c =
    let got = sym c.get.ensures ∙ c.unwrap-op.ensures in
    let line = step_line c.args.name.now c.loop-place.place c.unwrap-op.result in
    let said = tells_next (IsStepLine c.args.name.now) c.args.steps.now c.loop-place.place c.unwrap-op.result line
    (string_bytes c.args.text.now) (string_bytes c.loop-place.text) (string_bytes c.push_step.new.text) got c.loop-place.invariant.1 refl c.in_ok-push_step.ensures in (
      omega (arith, c.loop-place-test.true, c.len-count.ensures.value),
      subst (λ (n : ℕ). Tells (Say (IsStepLine c.args.name.now) (take n (enumerate_from 0 c.args.steps.now))) (string_bytes c.args.text.now) (string_bytes c.push_step.new.text))
          (sym (add-one c.loop-place.place)) said,
    )

pub returns : goal.returns
returns c =
    let items = enumerate_from 0 c.args.steps.now in
    let long : length items ≡ length c.args.steps.now = length-enumerate_from 0 c.args.steps.now in
    let all : take c.loop-place.place items ≡ items = take_all c.loop-place.place items (omega (arith, c.loop-place-test.false, c.len-count.ensures.value, long)) in
    subst (λ (l : List (ℕ × Op)). Tells (Say (IsStepLine c.args.name.now) l) (string_bytes c.args.text.now) (string_bytes c.loop-place.text)) all c.loop-place.invariant.1
