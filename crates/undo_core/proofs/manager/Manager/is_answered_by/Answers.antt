use Rattle.std.proofs.Common.{◌≡◌, ◌&&◌, ◌%◌, not, Bool, true, sym, ◌∙◌, ap, subst}
use Rattle.std.specs.Prelude.{IsSome}
use Rattle.std.proofs.lemmas.Bool.{true≢false}
use Rattle.model_bus.specs.Answered.{Answered}
use Rattle.model_undo.specs.Words.{is_busy}
use Rattle.model_bus.specs.Bytes.{ipmb_answers}
use Rattle.bmc_core.specs.Wires.{bytes_of}
use Rattle.bmc_core.specs.Bytes.{response_bytes}
use Rattle.model_lab.specs.ManagerSteps.{is_answer}
use Rattle.undo_core.specs.Shown.{own, taken_if}
use Rattle.undo_core.proofs.Heard.{heard_response, no_response, other_response}
use Rattle.undo_core.proofs.manager.Manager.is_answered_by.Goals as goal

pub returns-in_default : goal.returns-in_default
returns-in_default c names s shows =
    no_response names c.args.self.now s c.args.response.now shows (λ k parts asked was goes. true≢false (sym (subst IsSome c.in_default.is (c.heeded_on.ensures.none k parts asked was goes))))

pub returns-then-is_answer : goal.returns-then-is_answer
returns-then-is_answer c names s shows =
    let m = c.args.self.now in
    let r = c.args.response.now in
    let a : Answered = record { code = r.code; body = r.body } in
    let is = c.in-Some.ensures.some in
    let test : ipmb_answers (bytes_of (m.counts.ipmb % 64) (own names c.in-Some.asked.now)) (response_bytes r) ≡ (c.is_answer_to.result && not (is_busy r.code)) =
    (λ i. ipmb_answers (bytes_of (sym c.sequence.ensures i) (own names c.in-Some.asked.now)) (response_bytes r)) ∙ c.is_answer_to.ensures names is.3 in
    let ours : is_answer m.names r ≡ true = sym c.is_answer.ensures ∙ c.if-is_answer.true in
    heard_response names m s r is.0 is.1 c.in-Some.asked.now c.is_answer_to.result shows is.2 is.3 test ∙ ap (λ (b : Bool). taken_if names (b && c.is_answer_to.result) a s) ours

pub returns-else-is_answer : goal.returns-else-is_answer
returns-else-is_answer c names s shows = other_response names c.args.self.now s c.args.response.now shows (sym c.is_answer.ensures ∙ c.if-is_answer.false)
    ∙ ap (λ (b : Bool). taken_if names b (record { code = c.args.response.now.code; body = c.args.response.now.body }) s) (sym c.if-is_answer.false)
