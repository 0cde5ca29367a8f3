-- What of a frame is compared, and what of one is kept.
use Rattle.std.proofs.Common.{◌≡◌, ℕ, ◌+◌, ◌*◌, ◌-◌, ◌/◌, ◌%◌, ◌<◌, ◌≤◌, List, [], ◌∷◌, ◌++◌, length, take, drop, sym, ◌∙◌, ap, subst, arith}
use Rattle.std.specs.Prelude.{slice_index}
use Rattle.std.proofs.Math.Seq.{take-append_seam}
use Rattle.std.proofs.lemmas.List.{length-append}
use Rattle.two_wire.specs.Check.{check_byte}
use Rattle.ipmb_frame.specs.declared.message.Header.{Header}
use Rattle.ipmb_frame.specs.declared.message.Request.{Request}
use Rattle.ipmb_frame.specs.declared.message.Response.{Response}
use Rattle.ipmb_frame.specs.Grammar.{packed, request_bytes, request_head, request_tail, response_connection, response_lead, response_head, response_tail, frame, IsRequest, IsResponse}
use Rattle.record_base.specs.declared.message.Answered.{Answered}
use Rattle.bmc_core.specs.Bytes.{heard_in}
use Rattle.model_bus.specs.Request.{Request as Asking, Kept, Entry, Carried}
use Rattle.model_bus.specs.Numbering.{is_above}
use Rattle.model_bus.specs.Carried.{IsNew, outcome}
use Rattle.bmc_core.specs.declared.window_request.WindowRequest.{WindowRequest as Heard}
use Rattle.bmc_core.specs.Keeps.{Reading, HeldWindows, WindowsKeep}
use Rattle.bmc_core.specs.Heard.{request_of, kept_of as kept_as}
use Rattle.bmc_core.specs.IpmbShown.{reading, whole, response, response_giving, kept_of, KeepsAnswer}

-- all but the last byte
butlast : (xs : List ℕ) (last n : ℕ) → n ≡ length xs → take n (xs ++ last ∷ []) ≡ xs
butlast xs last n size = ap (λ (k : ℕ). take k (xs ++ last ∷ [])) size ∙ take-append_seam xs (last ∷ [])

-- a frame's second byte, and those from the fifth to the last but one, are the request's bytes
pub compared : (r : Request) (bytes : List ℕ) → IsRequest r bytes → slice_index bytes 1 ∷ take (length bytes - 1 - 4) (drop 4 bytes) ≡ request_bytes r
compared r bytes is =
    let h = r.header in
    let rest : List ℕ = packed h.sequence h.requester.lun ∷ h.command ∷ r.body in
    let last : ℕ = check_byte (request_tail r) in
    let size : length (rest ++ last ∷ []) ≡ length rest + 1 = length-append rest (last ∷ []) in
    ap (λ (xs : List ℕ). slice_index xs 1 ∷ take (length xs - 1 - 4) (drop 4 xs)) is.spelled
    ∙ ap (λ (xs : List ℕ). packed h.net_fn h.responder.lun ∷ xs) (butlast rest last (length (frame (request_head r) (request_tail r)) - 1 - 4) (omega (arith, size)))

high : (n lun : ℕ) → lun < 4 → (4 * n + lun) / 4 ≡ n
high n lun below = omega (arith, below)

low : (n lun : ℕ) → lun < 4 → (4 * n + lun) % 4 ≡ lun
low n lun below = omega (arith, below)

-- a response's frame has 8 to 32 bytes
pub frame_size : (r : Response) (bytes : List ℕ) → IsResponse r bytes → (8 ≤ length bytes) × (length bytes ≤ 32)
frame_size r bytes is =
    let size : length (r.body ++ check_byte (response_tail r) ∷ []) ≡ length r.body + 1 = length-append r.body (check_byte (response_tail r) ∷ []) in
    let whole : length bytes ≡ length (frame (response_head r) (response_tail r)) = ap (λ (xs : List ℕ). length xs) is.spelled in
    (omega (arith, size, whole), omega (arith, size, whole, is.fits))

-- a response's bytes beside addresses and check bytes
abbrev pub reply_bytes : Header → ℕ → List ℕ → List ℕ
reply_bytes h code body = packed (h.net_fn + 1) h.requester.lun ∷ packed h.sequence h.responder.lun ∷ h.command ∷ code ∷ body

-- its frame is read as these
pub frame_reply : (h : Header) (code : ℕ) (body bytes : List ℕ) → IsResponse (response h code body) bytes → reading.reply bytes ≡ reply_bytes h code body
frame_reply h code body bytes is =
    let start : List ℕ = response_lead h code ++ body in
    let head : List ℕ = response_connection h in
    let all : List ℕ = head ++ check_byte head ∷ start in
    let last : ℕ = check_byte start in
    let size : length (all ++ last ∷ []) ≡ length all + 1 = length-append all (last ∷ []) in
    ap (λ (xs : List ℕ). reading.reply xs) is.spelled
    ∙ ap (λ (xs : List ℕ). packed (h.net_fn + 1) h.requester.lun ∷ drop 4 xs) (butlast all last (length (all ++ last ∷ []) - 1) (omega (arith, size)))

-- so that of the response that gives the answer is the reply that gives it
kept_reply : (r : Request) (a : Answered) (bytes : List ℕ) → IsResponse (response_giving r a) bytes → reading.reply bytes ≡ (kept_of r a).reply
kept_reply r a bytes is =
    let h = r.header in
    frame_reply h a.code a.body bytes is
    ∙ sym (λ i. packed (high h.net_fn h.responder.lun is.header.responder.lun i + 1) (low h.sequence h.requester.lun is.header.requester.lun i)
    ∷ packed (high h.sequence h.requester.lun is.header.requester.lun i) (low h.net_fn h.responder.lun is.header.responder.lun i) ∷ h.command ∷ a.code ∷ a.body)

-- so windows that keep the request and this frame have carried the request out
pub carried_of : (old next : HeldWindows) (heard : Heard 64) (r : Request) (a : Answered) (bytes given : List ℕ)
    → request_of reading heard ≡ heard_in r → IsResponse (response_giving r a) bytes → given ≡ bytes
    → ((how : Reading) (log : List Entry) → WindowsKeep 64 how old log → outcome (is_above 64) (request_of how heard) log ≡ IsNew
    → WindowsKeep 64 how next (Carried (kept_as how heard given) ∷ log))
    → KeepsAnswer old r a next
carried_of old next heard r a bytes given same is written carried p of new fresh =
    let reply : reading.reply given ≡ (kept_of r a).reply = ap (λ (xs : List ℕ). reading.reply xs) written ∙ kept_reply r a bytes is in
    record {
      keeps = subst (λ (k : Kept). WindowsKeep 64 reading next (Carried k ∷ p.log)) (λ i. record { request = same i; reply = reply i })
          (carried reading p.log of.keeps (ap (λ (q : Asking). outcome (is_above 64) q p.log) same ∙ new));
      frames = record {
        log = Carried (kept_as whole heard given) ∷ of.frames.log;
        keeps = carried whole of.frames.log of.frames.keeps (ap (λ (q : Asking). outcome (is_above 64) q of.frames.log) same ∙ fresh of.frames.log of.frames.keeps);
        answered = (
          record { request = r; code = a.code; body = a.body; same = sym same; frame = subst (λ (xs : List ℕ). IsResponse (response_giving r a) xs) (sym written) is },
          of.frames.answered,
        );
      };
    }
