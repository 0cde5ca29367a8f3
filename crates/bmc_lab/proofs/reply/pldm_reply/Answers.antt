use Rattle.std.proofs.Common.{ℕ, List, subst, sym}
use Rattle.bmc_lab.specs.Reply.{AreCarried, IsPldmReply, IsReplyMessage}
use Rattle.bmc_lab.proofs.Carried.{carried_once}
use Rattle.bmc_lab.proofs.Found.{if_none, if_some, none_weaker}
use Rattle.bmc_lab.proofs.reply.pldm_reply.Goals as goal

pub returns-in_default-clause-none : goal.returns-in_default-clause-none
returns-in_default-clause-none c code body is =
    if_none ((message : List ℕ) → ¬ AreCarried c.args.frames.now message) c.in_ok-message.field-0 c.in_default.is c.in_ok-message.ensures.none is.message is.joined

pub returns-clause-none : goal.returns-clause-none
returns-clause-none c =
    let carried = subst (λ (m : List ℕ). AreCarried c.args.frames.now m) (sym c.as_slice.ensures.value)
    (if_some (λ message. AreCarried c.args.frames.now message.items) c.in_ok-message.field-0 c.in-Some.message c.in-Some.is c.in_ok-message.ensures.some) in
    none_weaker ((code : ℕ) (body : List ℕ) → ¬ IsReplyMessage c.as_slice.result.now code body) ((code : ℕ) (body : List ℕ) → ¬ IsPldmReply c.args.frames.now code body) c.pldm_in.result
    (λ none code body is. none code body (subst (λ (m : List ℕ). IsReplyMessage m code body) (carried_once c.args.frames.now is.message c.as_slice.result.now is.joined carried) is.says))
    c.pldm_in.ensures.none
