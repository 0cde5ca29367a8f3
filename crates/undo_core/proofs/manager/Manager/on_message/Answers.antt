use Rattle.std.proofs.Common.{◌≡◌, ◌%◌, true, not, None, sym, ◌∙◌, subst}
use Rattle.std.specs.Prelude.{IsSome}
use Rattle.std.proofs.lemmas.Bool.{true≢false}
use Rattle.model_bus.specs.Answered.{Answered}
use Rattle.model_undo.specs.Words.{is_busy}
use Rattle.model_bus.specs.Bytes.{pldm_answers}
use Rattle.bmc_core.specs.Wires.{bytes_of}
use Rattle.undo_core.specs.Shown.{own, IsStepResult}
use Rattle.undo_core.proofs.Heard.{heard_message, no_message}
use Rattle.undo_core.proofs.manager.Manager.on_message.Goals as goal

pub returns-in_default : goal.returns-in_default
returns-in_default c names s shows =
    subst (IsStepResult names c.args.self.now None)
    (sym (no_message names c.args.self.now s c.args.message.now shows (λ k parts asked was goes. true≢false (sym (subst IsSome c.in_default.is (c.heeded_on.ensures.none k parts asked was goes))))))
    (shows, tt)

pub returns : goal.returns
returns c names s shows =
    let m = c.args.self.now in
    let bytes = c.args.message.now in
    let asked = c.in-Some.asked.now in
    let is = c.in-Some.ensures.some in
    let reply = c.in-Some-reply_to.ensures.some in
    let a : Answered = record { code = c.in-Some-reply_to.reply.code; body = c.in-Some-reply_to.reply.body.now } in
    let test : pldm_answers (bytes_of (m.counts.smbus % 32) (own names asked)) bytes ≡ not (is_busy a.code) =
    (λ i. pldm_answers (bytes_of (sym c.instance.ensures i) (own names asked)) bytes) ∙ reply.tells names is.3 in
    subst (IsStepResult names c.on_reply.new.self c.on_reply.result) (sym (heard_message names m s bytes is.0 is.1 asked true a shows is.2 is.3 reply.answer test)) (c.on_reply.ensures names s shows)
