use Rattle.std.proofs.Common.{◌≡◌, ◌<◌, ℕ, List, ◌∷◌, ◌++◌, sym, ◌∙◌, ap, subst}
use Rattle.two_wire.specs.declared.Bus.TheVariants.{Smbus}
use Rattle.pldm_base.specs.declared.message.Header.{Header}
use Rattle.pldm_base.specs.Message.{reply_start}
use Rattle.model_bus.specs.Request.{Carried}
use Rattle.bmc_core.specs.PortSteps.{spelled}
use Rattle.bmc_core.specs.declared.out.Disposition.TheVariants as done
use Rattle.bmc_core.specs.SmbusHeard.{InMessage, asking}
use Rattle.bmc_core.specs.SmbusShown.{WindowsHold, ReplyPackets}
use Rattle.bmc_core.proofs.SmbusReplies.{spelled_so}
use Rattle.bmc_core.proofs.smbus_port.replying.keep_answer.Goals as goal

pub returns-clause-kept : goal.returns-clause-kept
returns-clause-kept c log h new =
    let m = c.args.request.now in
    let a = c.args.answered.now in
    let header : c.request.inside.request.header ≡ m.request.header = ap (λ (x : InMessage). x.request.header) c.request.view_is in
    let bytes : c.as_slice-2.result.now ≡ spelled Smbus (asking m) a =
    c.as_slice-2.ensures.value ∙ c.extend_from_slice.ensures ∙ (λ i. c.begin.ensures.started i ++ c.as_slice.ensures.value i)
    ∙ ap (λ (h : Header). (1 ∷ reply_start h a.code) ++ a.body) header ∙ sym (spelled_so m a (subst (λ (h : Header). h.instance < 32) header c.begin.ensures.header.instance)) in
    subst (λ (xs : List ℕ). WindowsHold c.keep.new.windows (Carried (record { request = asking m; reply = xs }) ∷ log)) bytes (c.keep.ensures.kept log h new)

pub returns-clause-sent : goal.returns-clause-sent
returns-clause-sent c =
    let m = c.args.request.now in
    let a = c.args.answered.now in
    let header : c.request.inside.request.header ≡ m.request.header = ap (λ (x : InMessage). x.request.header) c.request.view_is in
    let bytes : c.as_slice-2.result.now ≡ spelled Smbus (asking m) a =
    c.as_slice-2.ensures.value ∙ c.extend_from_slice.ensures ∙ (λ i. c.begin.ensures.started i ++ c.as_slice.ensures.value i)
    ∙ ap (λ (h : Header). (1 ∷ reply_start h a.code) ++ a.body) header ∙ sym (spelled_so m a (subst (λ (h : Header). h.instance < 32) header c.begin.ensures.header.instance)) in
    subst (λ (xs : List ℕ). ReplyPackets c.args.at.now m.envelope xs done.Answered c.keep.new.out) bytes c.keep.ensures.sent
