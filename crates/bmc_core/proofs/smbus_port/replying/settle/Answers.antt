use Rattle.std.proofs.Common.{◌≡◌, ◌<◌, ℕ, List, length, None, true, false, refl, sym, ◌∙◌, ap, subst}
use Rattle.two_wire.specs.declared.Bus.TheVariants.{Smbus}
use Rattle.model_bus.specs.Request.{Request as Asking}
use Rattle.model_bus.specs.Numbering.{is_above}
use Rattle.model_bus.specs.Carried.{Outcome, Repeats, IsBusy, IsNew, outcome}
use Rattle.bmc_core.specs.Values.{Value}
use Rattle.bmc_core.specs.Bytes.{said}
use Rattle.bmc_core.specs.declared.out.Disposition.TheVariants as done
use Rattle.bmc_core.specs.Outs.{sends, ReadBack}
use Rattle.bmc_core.specs.SmbusHeard.{InMessage, asking}
use Rattle.bmc_core.specs.SmbusShown.{pldm_reading, parts_from, frames_from, IsSettled}
use Rattle.bmc_core.proofs.SmbusReplies.{OutcomeHasBytes, repeats_bytes}
use Rattle.bmc_core.proofs.smbus_port.replying.settle.Goals as goal

pub returns-in-Repeats : goal.returns-in-Repeats
returns-in-Repeats c log h =
    let at = c.args.at.now in
    let m = c.args.request.now in
    let is : Repeats c.in-Repeats.reply ≡ outcome (is_above 32) (asking m) log =
    c.in-Repeats.ensures pldm_reading log h.kept ∙ ap (λ (r : Asking). outcome (is_above 32) r log) c.kept.ensures.is in
    let some : 0 < length c.in-Repeats.reply = subst OutcomeHasBytes (sym is) (repeats_bytes (is_above 32) (asking m) log h.replies) in
    let bytes : c.as_slice.result.now ≡ c.in-Repeats.reply = c.as_slice.ensures.value in
    let has : 0 < length c.as_slice.result.now = subst (λ (xs : List ℕ). 0 < length xs) (sym bytes) some in
    let envelope : c.request.inside.envelope ≡ m.envelope = ap (λ (x : InMessage). x.envelope) c.request.view_is in
    let sent : c.send.new.out ≡ sends (frames_from at.wire at.eid m.envelope c.in-Repeats.reply) done.Repeated =
    (c.send.ensures has).sent ∙ (λ i. sends (frames_from at.wire at.eid (envelope i) (bytes i)) done.Repeated) in
    let read : ReadBack Smbus (parts_from at.wire at.eid m.envelope c.in-Repeats.reply) =
    subst (λ (vs : List Value). ReadBack Smbus vs) (λ i. parts_from at.wire at.eid (envelope i) (bytes i)) (c.send.ensures has).read in
    subst (λ (o : Outcome). IsSettled o (said Smbus (asking m) None) (parts_from at.wire at.eid m.envelope) c.args.out.now c.send.new.out true) is (refl, sent, read)

pub returns-in-Busy : goal.returns-in-Busy
returns-in-Busy c log h =
    let at = c.args.at.now in
    let m = c.args.request.now in
    let is : IsBusy ≡ outcome (is_above 32) (asking m) log =
    c.in-Busy.ensures pldm_reading log h.kept ∙ ap (λ (r : Asking). outcome (is_above 32) r log) c.kept.ensures.is in
    subst (λ (o : Outcome). IsSettled o (said Smbus (asking m) None) (parts_from at.wire at.eid m.envelope) c.args.out.now c.refuse.new.out true) is (refl, c.refuse.ensures.sent, c.refuse.ensures.read)

pub returns-in-New : goal.returns-in-New
returns-in-New c log h =
    let at = c.args.at.now in
    let m = c.args.request.now in
    let is : IsNew ≡ outcome (is_above 32) (asking m) log =
    c.in-New.ensures pldm_reading log h.kept ∙ ap (λ (r : Asking). outcome (is_above 32) r log) c.kept.ensures.is in
    subst (λ (o : Outcome). IsSettled o (said Smbus (asking m) None) (parts_from at.wire at.eid m.envelope) c.args.out.now c.args.out.now false) is (refl, refl)
