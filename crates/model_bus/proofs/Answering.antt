-- The manager's test on bytes takes of live content what the model takes by the number.
use Rattle.std.proofs.Common.{◌≡◌, ℕ, ◌+◌, ◌*◌, ◌/◌, ◌%◌, ◌<◌, ◌≤◌, Bool, true, false, ◌&&◌, eqb, cond, List, [], ◌∷◌, length, Option, Some, None, refl, sym, ◌∙◌, ap, subst, arith, inl, inr}
use Rattle.std.specs.Prelude.{slice_get, slice_index}
use Rattle.std.proofs.lemmas.Bool.{and_parts, and_from, and_right, eqb-true, eq-eqb, lt-ltb, cond_both, cond-true, cases_Bool, true≢false, not_from_false, not_from_true}
use Rattle.std.proofs.lemmas.Option.{same_Some, slice_get_within}
use Rattle.two_wire.specs.declared.Bus.{Bus}
use Rattle.two_wire.specs.declared.Bus.TheVariants.{Ipmb, Smbus}
use Rattle.model_bus.specs.Numbering.{Rules, ipmb, smbus}
use Rattle.model_bus.specs.BusState.{BusState, Content, Ask, Reply, is_open, taken_content}
use Rattle.model_bus.specs.PacketBus.{rules_of}
use Rattle.model_bus.specs.PacketSchedule.{JoinRule}
use Rattle.model_bus.specs.Bytes.{IpmbHeader, ipmb_request, ipmb_reply, IsIpmbRequest, IsIpmbReply, ipmb_answers, PldmHeader, pldm_request, pldm_reply, IsPldmRequest, IsPldmReply, pldm_answers, is_busy_code, IsRequestOn, IsReplyOn, answers}
use Rattle.model_bus.specs.Answering.{AreWritten, taken_by_test, TestsAgree, TestIsModel, TestIsModelInPackets, BusyFails}
use Rattle.model_bus.proofs.NumberLaws.{IsNumbering, ipmb_numbers, smbus_numbers}
use Rattle.model_bus.proofs.Sound.{Fits}
use Rattle.model_bus.proofs.Steps.{Holds, start_holds, run_holds}
use Rattle.model_bus.proofs.PacketEnds.{packet_run_holds, start_ends_hold}
use Rattle.model_bus.proofs.PacketLaws.{AsksNoLess, all_imply}

-- ---- the tests

ipmb_accepts : (code : ℕ) (request reply : List ℕ) → is_busy_code code ≡ false → IsIpmbReply code request reply → ipmb_answers request reply ≡ true
ipmb_accepts code request reply free r =
    let h = r.header in
    let in_one = r.is_header.responder in let in_other = r.is_header.requester in
    let asked = ipmb_request h r.number r.request_body in
    let next : (4 * (h.net_fn + 1) + h.requester_lun) / 4 ≡ (4 * h.net_fn + h.responder_lun) / 4 + 1 = omega arith in
    let same : (4 * r.number + h.responder_lun) / 4 ≡ (4 * r.number + h.requester_lun) / 4 = omega arith in
    ap (λ (x : List ℕ). ipmb_answers x reply) r.request_spelled
    ∙ ap (ipmb_answers asked) r.reply_spelled
    ∙ and_from _ _ (and_from _ _ (eq-eqb _ _ next) (eq-eqb _ _ same)) (and_from _ _ (eq-eqb h.command h.command refl) (not_from_false _ free))

-- bits 7:2 of two bytes
same_upper : (m n low other : ℕ) → low < 4 → other < 4 → (4 * m + low) / 4 ≡ (4 * n + other) / 4 → m ≡ n
same_upper m n low other in_low in_other same = omega arith

-- bits 4:0, with and without the request bit
same_instance : (m n : ℕ) → m < 32 → n < 32 → m % 32 ≡ (128 + n) % 32 → m ≡ n
same_instance m n in_m in_n same = omega arith

-- the second byte tells the number
ipmb_number : (h g : IpmbHeader) (m n : ℕ) (xs ys : List ℕ) → h.requester_lun < 4 → g.requester_lun < 4 → ipmb_request h m xs ≡ ipmb_request g n ys → m ≡ n
ipmb_number h g m n xs ys in_h in_g same =
    let byte : 4 * m + h.requester_lun ≡ 4 * n + g.requester_lun = ap (λ (l : List ℕ). slice_index l 1) same in
    omega arith

ipmb_numbered : (code m n : ℕ) (opened asked reply : List ℕ) → IsIpmbRequest m opened → IsIpmbRequest n asked → IsIpmbReply code asked reply → ipmb_answers opened reply ≡ true → n ≡ m
ipmb_numbered code m n opened asked reply o a r passes =
    let h = r.header in
    let own : n ≡ r.number = ipmb_number a.header h n r.number a.body r.request_body a.is_header.requester r.is_header.requester (sym a.spelled ∙ r.request_spelled) in
    let here : ipmb_answers (ipmb_request o.header m o.body) (ipmb_reply h r.number code r.body) ≡ true =
    ap (λ (x : List ℕ). ipmb_answers x (ipmb_reply h r.number code r.body)) (sym o.spelled) ∙ ap (ipmb_answers opened) (sym r.reply_spelled) ∙ passes in
    own ∙ same_upper r.number m h.responder_lun o.header.requester_lun r.is_header.responder o.is_header.requester (eqb-true _ _ (and_parts _ _ (and_parts _ _ here).0).1)

pldm_accepts : (code : ℕ) (request reply : List ℕ) → is_busy_code code ≡ false → IsPldmReply code request reply → pldm_answers request reply ≡ true
pldm_accepts code request reply free r =
    let h = r.header in
    let small = r.instance in
    let asked = pldm_request h r.number r.request_body in
    let clear : r.number / 64 ≡ 0 = omega arith in
    let same : r.number % 32 ≡ (128 + r.number) % 32 = omega arith in
    ap (λ (x : List ℕ). pldm_answers x reply) r.request_spelled
    ∙ ap (pldm_answers asked) r.reply_spelled
    ∙ and_from _ _ (and_from _ _ (and_from _ _ refl (eq-eqb _ _ clear)) (eq-eqb _ _ same))
    (and_from _ _ (and_from _ _ (eq-eqb h.pldm_type h.pldm_type refl) (eq-eqb h.command h.command refl)) (not_from_false _ free))

pldm_numbered : (code m n : ℕ) (opened asked reply : List ℕ) → IsPldmRequest m opened → IsPldmRequest n asked → IsPldmReply code asked reply → pldm_answers opened reply ≡ true → n ≡ m
pldm_numbered code m n opened asked reply o a r passes =
    let h = r.header in
    let byte : 128 + n ≡ 128 + r.number = ap (λ (l : List ℕ). slice_index l 1) (sym a.spelled ∙ r.request_spelled) in
    let own : n ≡ r.number = omega arith in
    let here : pldm_answers (pldm_request o.header m o.body) (pldm_reply h r.number code r.body) ≡ true =
    ap (λ (x : List ℕ). pldm_answers x (pldm_reply h r.number code r.body)) (sym o.spelled) ∙ ap (pldm_answers opened) (sym r.reply_spelled) ∙ passes in
    own ∙ same_instance r.number m r.instance o.instance (eqb-true _ _ (and_parts _ _ (and_parts _ _ here).0).1)

accepts : (on : Bus) (code : ℕ) (request reply : List ℕ) → is_busy_code code ≡ false → IsReplyOn on code request reply → answers on request reply ≡ true
accepts Ipmb code request reply free r = ipmb_accepts code request reply free r
accepts Smbus code request reply free r = pldm_accepts code request reply free r

numbered : (on : Bus) (code m n : ℕ) (opened asked reply : List ℕ) → IsRequestOn on m opened → IsRequestOn on n asked → IsReplyOn on code asked reply → answers on opened reply ≡ true → n ≡ m
numbered Ipmb code m n opened asked reply o a r passes = ipmb_numbered code m n opened asked reply o a r passes
numbered Smbus code m n opened asked reply o a r passes = pldm_numbered code m n opened asked reply o a r passes

ipmb_busy : (code : ℕ) (opened : List ℕ) (h : IpmbHeader) (number : ℕ) (body : List ℕ) → is_busy_code code ≡ true → ipmb_answers opened (ipmb_reply h number code body) ≡ false
ipmb_busy code [] h number body busy = refl
ipmb_busy code (f ∷ []) h number body busy = refl
ipmb_busy code (f ∷ n ∷ []) h number body busy = refl
ipmb_busy code (f ∷ n ∷ c ∷ rest) h number body busy = and_right _ _ (and_right _ _ (not_from_true _ busy))

pldm_busy : (code : ℕ) (opened : List ℕ) (h : PldmHeader) (number : ℕ) (body : List ℕ) → is_busy_code code ≡ true → pldm_answers opened (pldm_reply h number code body) ≡ false
pldm_busy code [] h number body busy = refl
pldm_busy code (k ∷ []) h number body busy = refl
pldm_busy code (k ∷ f ∷ []) h number body busy = refl
pldm_busy code (k ∷ f ∷ t ∷ []) h number body busy = refl
pldm_busy code (k ∷ f ∷ t ∷ c ∷ rest) h number body busy = and_right _ _ (and_right _ _ (not_from_true _ busy))

pub busy_fails : (on : Bus) → BusyFails on
busy_fails Ipmb code opened request reply busy r = ap (ipmb_answers opened) r.reply_spelled ∙ ipmb_busy code opened r.header r.number r.body busy
busy_fails Smbus code opened request reply busy r = ap (pldm_answers opened) r.reply_spelled ∙ pldm_busy code opened r.header r.number r.body busy

-- ---- what is taken

module _ (on : Bus) (b : Rules) (numbers : IsNumbering b) (s : BusState) (h : Holds b s) (written : AreWritten on b s) where
  pub test_is_model : (n : ℕ) (c : Content) (opened : List ℕ) → slice_get s.begun (length s.taken) ≡ Some opened → length s.begun ≤ n + b.span → Fits b s.begun s.carried n c
      → taken_content b c s ≡ taken_by_test on opened c
  test_is_model n (Ask bytes) opened at live fits = refl
  test_is_model n (Reply number None) opened at live fits = refl
  test_is_model n (Reply number (Some reply)) opened at live fits =
      let place = length s.taken in
      let k = fits.1.kept in
      let begun_at = (h.sound.in_order n k fits.1.at).0 in
      let r = written.replies n k fits.1.at in
      let answered : IsReplyOn on r.0 k.request.bytes reply = subst (IsReplyOn on r.0 k.request.bytes) fits.1.replied r.2 in
      let open_at : place < length s.begun = slice_get_within s.begun place opened at in
      let is_now : is_open s ≡ true = lt-ltb place (length s.begun) open_at in
      let one_open = h.sound.one_open in let below = h.sound.below in
      let within = slice_get_within s.begun n k.request.bytes begun_at in
      let none : Option (List ℕ) = None in
      elim (cases_Bool (answers on opened reply)) [
        | inl passes ↦
            let same : b.number_of n ≡ b.number_of place =
            numbered on r.0 (b.number_of place) (b.number_of n) opened k.request.bytes reply (written.requests place opened at) (written.requests n k.request.bytes begun_at) answered passes in
            cond-true _ _ _ (and_from _ _ is_now (eq-eqb number (b.number_of place) (fits.0 ∙ same))) ∙ sym (ap (λ (t : Bool). cond t (Some reply) none) passes)
        | inr fails ↦
            cond_both (is_open s && eqb number (b.number_of place)) (Some reply) none (λ (o : Option (List ℕ)). o ≡ none)
            (λ t.
            let same : n ≡ place = numbers.one n place (omega arith) (omega arith) (sym fits.0 ∙ eqb-true _ _ (and_parts _ _ t).1) in
            let is : k.request.bytes ≡ opened = same_Some _ _ (sym begun_at ∙ ap (slice_get s.begun) same ∙ at) in
            let passes : answers on opened reply ≡ true = subst (λ (x : List ℕ). answers on x reply ≡ true) is (accepts on r.0 k.request.bytes reply r.1 answered) in
            absurd (true≢false (sym passes ∙ fails)))
            (λ f. refl)
            ∙ sym (ap (λ (t : Bool). cond t (Some reply) none) fails)
      ]

  pub tests_agree : TestsAgree on b s
  tests_agree which f opened at live is = test_is_model f.request f.content opened is live.0 (h.sound.frames which f at).fits

whole_messages : (on : Bus) (b : Rules) → IsNumbering b → TestIsModel on b
whole_messages on b numbers start events none empty honest written = tests_agree on b numbers _ (run_holds b numbers events start (start_holds b start none empty) honest) written

pub ipmb_test : (manager controller first : ℕ) → TestIsModel Ipmb (ipmb manager controller first)
ipmb_test manager controller first = whole_messages Ipmb (ipmb manager controller first) (ipmb_numbers manager controller first)

pub smbus_test : (manager controller first : ℕ) → TestIsModel Smbus (smbus manager controller first)
smbus_test manager controller first = whole_messages Smbus (smbus manager controller first) (smbus_numbers manager controller first)

pub packet_test : (rule : JoinRule) → AsksNoLess rule → TestIsModelInPackets Smbus rule
packet_test rule asks b cutting start events none waits empty honest written =
    let ok = packet_run_holds b cutting start.bus.log events start (start_ends_hold b cutting start none waits empty) (all_imply rule asks b events start honest) in
    tests_agree Smbus (rules_of b) (smbus_numbers b.manager b.controller b.first) _ ok.holds written
