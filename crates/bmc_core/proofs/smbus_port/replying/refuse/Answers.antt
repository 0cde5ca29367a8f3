use Rattle.std.proofs.Common.{◌≡◌, ◌<◌, lit<, ℕ, List, [], ◌∷◌, length, None, sym, ◌∙◌, ap, subst}
use Rattle.two_wire.specs.declared.Bus.TheVariants.{Smbus}
use Rattle.two_wire.specs.Codes.{pldm_not_ready}
use Rattle.mctp_net.specs.declared.packet.Envelope.{Envelope}
use Rattle.pldm_base.specs.declared.message.Header.{Header}
use Rattle.pldm_base.specs.Message.{reply_start}
use Rattle.bmc_core.specs.Bytes.{said}
use Rattle.bmc_core.specs.declared.out.Disposition.TheVariants as done
use Rattle.bmc_core.specs.SmbusHeard.{InMessage, asking, busy_reply}
use Rattle.bmc_core.specs.SmbusShown.{ReplyPackets}
use Rattle.bmc_core.proofs.SmbusReplies.{spelled_so}
use Rattle.bmc_core.proofs.smbus_port.replying.refuse.Goals as goal

pub returns : goal.returns
returns c =
    let at = c.args.at.now in
    let m = c.args.request.now in
    let envelope : c.request.inside.envelope ≡ m.envelope = ap (λ (x : InMessage). x.envelope) c.request.view_is in
    let header : c.request.inside.request.header ≡ m.request.header = ap (λ (x : InMessage). x.request.header) c.request.view_is in
    let bytes : c.as_slice.result.now ≡ said Smbus (asking m) None =
    c.as_slice.ensures.value ∙ c.begin.ensures.started ∙ (λ i. 1 ∷ reply_start (header i) (c.value.ensures.value i))
    ∙ sym (spelled_so m (record { code = pldm_not_ready; body = [] }) (subst (λ (h : Header). h.instance < 32) header c.begin.ensures.header.instance)) in
    let some : 0 < length c.as_slice.result.now = subst (λ (xs : List ℕ). 0 < length xs) (sym bytes) (lit< tt) in
    subst (λ (e : Envelope). ReplyPackets at e (busy_reply m) done.Busy c.send.new.out) envelope
    (subst (λ (xs : List ℕ). ReplyPackets at c.request.inside.envelope xs done.Busy c.send.new.out) bytes (c.send.ensures some))
