use Rattle.std.proofs.Common.{◌≡◌, ◌++◌, ℕ, List, length, codes, arith, sym, ◌∙◌, ap, subst, string_bytes}
use Rattle.text_lines.specs.Cuts.{ended}
use Rattle.text_journal.specs.JournalLines.{number_line, IsStepLine}
use Rattle.text_journal.specs.Written.{step_line}
use Rattle.text_journal.proofs.Pushing.{Pushed, pushed_none, pushed_more, pushed_all, each_is}
use Rattle.text_journal.proofs.writing.push_steps.Goals as goal

pub loop-place-init : goal.loop-place-init
loop-place-init c =
    let line : string_bytes c.writeln.new.self ≡ string_bytes c.args.text.now ++ ended (number_line (codes "steps ") (length c.args.steps.now)) =
    c.in_ok-writeln.ensures.bytes ∙ ap (λ (n : ℕ). string_bytes c.args.text.now ++ ended (number_line (codes "steps ") n)) c.len-count.ensures.value in (
      omega arith,
      subst (λ (t : List ℕ). Pushed step_line (λ op. IsStepLine (step_line op) op) c.args.steps.now 0 t (string_bytes c.writeln.new.self)) line (pushed_none step_line (λ op. IsStepLine (step_line op) op) c.args.steps.now (string_bytes c.writeln.new.self)),
    )

pub loop-place-preserved : goal.loop-place-preserved
loop-place-preserved c =
    let got = sym c.get.ensures ∙ c.unwrap-op.ensures in (
      omega (arith, c.loop-place-test.true, c.len-count.ensures.value),
      pushed_more step_line (λ op. IsStepLine (step_line op) op) c.args.steps.now c.loop-place.place c.unwrap-op.result (string_bytes c.args.text.now ++ (ended (number_line (codes "steps ") (length c.args.steps.now)))) (string_bytes c.loop-place.text) (string_bytes c.push_step.new.text)
          got c.loop-place.invariant.1 c.in_ok-push_step.ensures.text c.in_ok-push_step.ensures.line,
    )

pub returns-clause-text : goal.returns-clause-text
returns-clause-text c =
    pushed_all step_line (λ op. IsStepLine (step_line op) op) c.args.steps.now c.loop-place.place (string_bytes c.args.text.now) (ended (number_line (codes "steps ") (length c.args.steps.now))) (string_bytes c.loop-place.text) (omega (arith, c.loop-place-test.false, c.len-count.ensures.value)) c.loop-place.invariant.1

pub returns-clause-lines : goal.returns-clause-lines
returns-clause-lines c =
    each_is step_line (λ op. IsStepLine (step_line op) op) c.args.steps.now c.loop-place.place (string_bytes c.args.text.now ++ (ended (number_line (codes "steps ") (length c.args.steps.now)))) (string_bytes c.loop-place.text) (omega (arith, c.loop-place-test.false, c.len-count.ensures.value)) c.loop-place.invariant.1

pub returns-clause-few : goal.returns-clause-few
returns-clause-few c = omega (arith, c.len-count.ensures.value, c.len-count.ensures.few)
