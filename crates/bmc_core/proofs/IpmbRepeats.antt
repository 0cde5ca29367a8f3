-- A frame that is kept for a request answers the request that repeats it.
use Rattle.std.proofs.Common.{◌≡◌, ℕ, List, [], ◌∷◌, ◌++◌, drop, Some, refl, sym, ◌∙◌, ap, subst}
use Rattle.std.specs.Prelude.{slice_index}
use Rattle.ipmb_frame.specs.declared.message.Request.{Request}
use Rattle.ipmb_frame.specs.declared.message.Response.{Response}
use Rattle.ipmb_frame.specs.Grammar.{request_bytes, IsResponse}
use Rattle.ipmb_frame.proofs.Uniqueness.{bytes-one, header-one}
use Rattle.model_bus.specs.Request.{Request as Asking, Kept, Entry, Carried, Idled}
use Rattle.model_bus.specs.Numbering.{is_above}
use Rattle.model_bus.specs.Carried.{Repeats, outcome}
use Rattle.model_bus.proofs.Sentence.{sentence_64}
use Rattle.two_wire.specs.declared.Bus.TheVariants.{Ipmb}
use Rattle.bmc_core.specs.Bytes.{heard_in}
use Rattle.bmc_core.specs.Values.{written}
use Rattle.bmc_core.specs.PortSteps.{response_after}
use Rattle.bmc_core.specs.Outs.{ReadBack}
use Rattle.bmc_core.proofs.OwnBytes.{response_read}
use Rattle.bmc_core.specs.IpmbShown.{reading, HasUnits, IsKeptResponse, AllAnswered, response}
use Rattle.bmc_core.proofs.IpmbFrames.{reply_bytes, frame_reply}

answered_in : (front : List Entry) (k : Kept) (older : List Entry) → AllAnswered (front ++ Carried k ∷ older) → IsKeptResponse k
answered_in [] k older all = all.0
answered_in (Carried j ∷ front) k older all = answered_in front k older all.1
answered_in (Idled q ∷ front) k older all = answered_in front k older all

-- what is found for a request answers it
pub found_answers : (r : Asking) (log : List Entry) (reply : List ℕ) → outcome (is_above 64) r log ≡ Repeats reply → AllAnswered log
    → IsKeptResponse (record { request = r; reply = reply })
found_answers r log reply is all =
    let h = (sentence_64.repeats r log reply).0 is in
    let a : IsKeptResponse h.kept = answered_in h.newer h.kept h.older (subst (λ (l : List Entry). AllAnswered l) h.whole all) in
    record {
      request = a.request;
      code = a.code;
      body = a.body;
      same = a.same ∙ sym h.same;
      frame = subst (λ (bytes : List ℕ). IsResponse (response a.request.header a.code a.body) bytes) h.replied a.frame;
    }

-- from the request's own address, it is the response that repeats it
pub repeats : (r : Request) (kept : List ℕ) → HasUnits r.header → IsKeptResponse (record { request = heard_in r; reply = kept })
    → slice_index kept 3 ≡ r.header.responder.address
    → IsResponse (response r.header (slice_index (reading.reply kept) 3) (drop 4 (reading.reply kept))) kept
repeats r kept units a at =
    let q = a.request in
    let bytes : request_bytes q ≡ request_bytes r = ap (λ (h : Asking). h.bytes) a.same in
    let parts = bytes-one q r a.frame.header.responder.lun units.responder a.frame.header.requester.lun units.requester bytes in
    let from : q.header.requester.address ≡ r.header.requester.address = ap (λ (h : Asking). h.requester) a.same in
    let third : slice_index kept 3 ≡ q.header.responder.address = ap (λ (xs : List ℕ). slice_index xs 3) a.frame.spelled in
    let same : q.header ≡ r.header = header-one q.header r.header (sym third ∙ at) parts.0 from parts.1 parts.2.0 parts.2.1 parts.2.2 in
    let reply : reading.reply kept ≡ reply_bytes q.header a.code a.body = frame_reply q.header a.code a.body kept a.frame in
    subst (λ (s : Response). IsResponse s kept)
    (λ i. response (same i) (slice_index (sym reply i) 3) (drop 4 (sym reply i))) a.frame

-- so it is sent as that
pub repeat_is : (r : Request) (kept : List ℕ) → HasUnits r.header → IsKeptResponse (record { request = heard_in r; reply = kept })
    → slice_index kept 3 ≡ r.header.responder.address
    → (kept ≡ written (response_after r (Some (reading.reply kept)))) × ReadBack Ipmb (response_after r (Some (reading.reply kept)) ∷ [])
repeat_is r kept units a at =
    let is = repeats r kept units a at in
    (is.spelled, response_read _ _ kept is refl)
