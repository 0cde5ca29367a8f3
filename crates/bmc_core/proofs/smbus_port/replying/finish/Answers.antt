use Rattle.std.proofs.Common.{◌≡◌, ℕ, List, ◌∷◌, ◌++◌, Result, Ok, Err, sym, ◌∙◌, ap, subst}
use Rattle.std.proofs.lemmas.List.{append-nil}
use Rattle.pldm_base.specs.declared.message.Header.{Header}
use Rattle.pldm_base.specs.Message.{reply_start}
use Rattle.record_base.specs.declared.message.Answered.{Answered as Reply}
use Rattle.bmc_board.specs.Gives.{GivesReply}
use Rattle.bmc_core.proofs.smbus_port.replying.finish.Goals as goal

-- the data of an answer stand behind the start of its reply
done_bytes : (result : Result (Unit {0}) ℕ) (h : Header) (whole : List ℕ) (a : Reply) (done : Unit {0}) → result ≡ Ok done → GivesReply result (1 ∷ reply_start h 0) whole a
    → whole ≡ (1 ∷ reply_start h a.code) ++ a.body
done_bytes result h whole a done is gives =
    let at : GivesReply (let r : Result (Unit {0}) ℕ = Ok done in r) (1 ∷ reply_start h 0) whole a = subst (λ (r : Result (Unit {0}) ℕ). GivesReply r (1 ∷ reply_start h 0) whole a) is gives in
    at.1 ∙ ap (λ (code : ℕ). (1 ∷ reply_start h code) ++ a.body) (sym at.0)

-- a refusal is the start alone
refused_bytes : (result : Result (Unit {0}) ℕ) (h : Header) (whole made : List ℕ) (a : Reply) (code : ℕ) → result ≡ Err code → made ≡ 1 ∷ reply_start h code
    → GivesReply result (1 ∷ reply_start h 0) whole a → made ≡ (1 ∷ reply_start h a.code) ++ a.body
refused_bytes result h whole made a code is starts gives =
    let at : GivesReply (let r : Result (Unit {0}) ℕ = Err code in r) (1 ∷ reply_start h 0) whole a = subst (λ (r : Result (Unit {0}) ℕ). GivesReply r (1 ∷ reply_start h 0) whole a) is gives in
    starts ∙ sym (append-nil (1 ∷ reply_start h code)) ∙ ap (λ (b : Reply). (1 ∷ reply_start h b.code) ++ b.body) (sym at.0)

pub returns-in-Ok : goal.returns-in-Ok
returns-in-Ok c a gives = done_bytes c.args.given c.args.header.now c.args.reply.now a _ c.in-Ok.is gives

pub returns-in-Err : goal.returns-in-Err
returns-in-Err c a gives =
    refused_bytes c.args.given c.args.header.now c.args.reply.now c.begin.new.reply a c.in-Err.code c.in-Err.is
    (c.begin.ensures.started ∙ ap (λ (code : ℕ). 1 ∷ reply_start c.args.header.now code) c.value.ensures.value) gives
