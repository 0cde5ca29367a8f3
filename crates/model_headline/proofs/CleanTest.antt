-- The manager's test takes the reply to the open request, unless that says that the port is busy.
use Rattle.std.proofs.Common.{◌≡◌, ℕ, ◌+◌, ◌*◌, ◌/◌, ◌%◌, true, false, List, refl, ◌∙◌, ap, arith}
use Rattle.std.proofs.lemmas.Bool.{and_from, eq-eqb, not_from_false}
use Rattle.two_wire.specs.declared.Bus.{Bus}
use Rattle.two_wire.specs.declared.Bus.TheVariants.{Ipmb, Smbus}
use Rattle.model_bus.specs.Bytes.{ipmb_request, IsIpmbReply, ipmb_answers, pldm_request, IsPldmReply, pldm_answers, is_busy_code, IsReplyOn, answers}

ipmb_accepts : (code : ℕ) (request reply : List ℕ) → is_busy_code code ≡ false → IsIpmbReply code request reply → ipmb_answers request reply ≡ true
ipmb_accepts code request reply free r =
    let h = r.header in
    let in_one = r.is_header.responder in let in_other = r.is_header.requester in
    let asked = ipmb_request h r.number r.request_body in
    let next : (4 * (h.net_fn + 1) + h.requester_lun) / 4 ≡ (4 * h.net_fn + h.responder_lun) / 4 + 1 = omega arith in
    let same : (4 * r.number + h.responder_lun) / 4 ≡ (4 * r.number + h.requester_lun) / 4 = omega arith in
    ap (λ (x : List ℕ). ipmb_answers x reply) r.request_spelled
    ∙ ap (ipmb_answers asked) r.reply_spelled
    ∙ and_from _ _ (and_from _ _ (eq-eqb _ _ next) (eq-eqb _ _ same)) (and_from _ _ (eq-eqb h.command h.command refl) (not_from_false _ free))

pldm_accepts : (code : ℕ) (request reply : List ℕ) → is_busy_code code ≡ false → IsPldmReply code request reply → pldm_answers request reply ≡ true
pldm_accepts code request reply free r =
    let h = r.header in
    let small = r.instance in
    let asked = pldm_request h r.number r.request_body in
    let clear : r.number / 64 ≡ 0 = omega arith in
    let same : r.number % 32 ≡ (128 + r.number) % 32 = omega arith in
    ap (λ (x : List ℕ). pldm_answers x reply) r.request_spelled
    ∙ ap (pldm_answers asked) r.reply_spelled
    ∙ and_from _ _ (and_from _ _ (and_from _ _ refl (eq-eqb _ _ clear)) (eq-eqb _ _ same))
    (and_from _ _ (and_from _ _ (eq-eqb h.pldm_type h.pldm_type refl) (eq-eqb h.command h.command refl)) (not_from_false _ free))

pub accepts : (on : Bus) (code : ℕ) (request reply : List ℕ) → is_busy_code code ≡ false → IsReplyOn on code request reply → answers on request reply ≡ true
accepts Ipmb code request reply free r = ipmb_accepts code request reply free r
accepts Smbus code request reply free r = pldm_accepts code request reply free r
