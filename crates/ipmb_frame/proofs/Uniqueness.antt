-- Bytes are at most one message, and a message has one frame.
use Rattle.std.proofs.Common.{◌≡◌, ℕ, ◌+◌, ◌%◌, ◌<◌, List, sym, ◌∙◌, ap, arith}
use Rattle.ipmb_frame.specs.declared.message.Header.{Header}
use Rattle.ipmb_frame.specs.declared.message.Request.{Request}
use Rattle.ipmb_frame.specs.declared.message.Response.{Response}
use Rattle.ipmb_frame.specs.declared.message.Msg.{Msg}
use Rattle.ipmb_frame.specs.declared.message.Msg.TheVariants as msg
use Rattle.ipmb_frame.specs.Grammar.{packed, frame, request_bytes, request_head, request_tail, response_tail, IsRequest, IsResponse, IsMessage}
use Rattle.ipmb_frame.proofs.Checked.{checked-one}

-- a byte is of one pair of numbers, the lower one below 4
packed-one : (a b m n : ℕ) → b < 4 → n < 4 → packed a b ≡ packed m n → (a ≡ m) × (b ≡ n)
packed-one a b m n h k e = (omega arith, omega arith)

-- two headers with the same fields are one
pub header-one : (h k : Header) → h.responder.address ≡ k.responder.address → h.responder.lun ≡ k.responder.lun
    → h.requester.address ≡ k.requester.address → h.requester.lun ≡ k.requester.lun
    → h.net_fn ≡ k.net_fn → h.sequence ≡ k.sequence → h.command ≡ k.command → h ≡ k
header-one h k a b c d e f g = λ i. record {
  responder = record { address = a i; lun = b i };
  requester = record { address = c i; lun = d i };
  net_fn = e i;
  sequence = f i;
  command = g i;
}

-- what two requests with the same bytes have in common
pub bytes-one : (r s : Request) → r.header.responder.lun < 4 → s.header.responder.lun < 4 → r.header.requester.lun < 4 → s.header.requester.lun < 4
    → request_bytes r ≡ request_bytes s
    → (r.header.responder.lun ≡ s.header.responder.lun) × (r.header.requester.lun ≡ s.header.requester.lun)
    × ((r.header.net_fn ≡ s.header.net_fn) × (r.header.sequence ≡ s.header.sequence) × (r.header.command ≡ s.header.command)) × (r.body ≡ s.body)
bytes-one r s a b c d e =
    let low : (r.header.net_fn ≡ s.header.net_fn) × (r.header.responder.lun ≡ s.header.responder.lun) = packed-one _ _ _ _ a b (cc) in
    let high : (r.header.sequence ≡ s.header.sequence) × (r.header.requester.lun ≡ s.header.requester.lun) = packed-one _ _ _ _ c d (cc) in
    let command : r.header.command ≡ s.header.command = cc in
    let body : r.body ≡ s.body = cc in
    (low.1, high.1, (low.0, high.0, command), body)

-- requests between the same addresses with the same bytes are one
pub same-bytes_one : (r s : Request) (xs ys : List ℕ) → IsRequest r xs → IsRequest s ys → r.header.responder.address ≡ s.header.responder.address
    → r.header.requester.address ≡ s.header.requester.address → request_bytes r ≡ request_bytes s → r ≡ s
same-bytes_one r s xs ys h k to from e =
    let parts = bytes-one r s h.header.responder.lun k.header.responder.lun h.header.requester.lun k.header.requester.lun e in
    let header : r.header ≡ s.header = header-one r.header s.header to parts.0 from parts.1 parts.2.0 parts.2.1 parts.2.2 in
    λ i. record { header = header i; body = parts.3 i }

-- and have one frame
pub same-bytes_one_frame : (r s : Request) (xs ys : List ℕ) → IsRequest r xs → IsRequest s ys → r.header.responder.address ≡ s.header.responder.address
    → r.header.requester.address ≡ s.header.requester.address → request_bytes r ≡ request_bytes s → xs ≡ ys
same-bytes_one_frame r s xs ys h k to from e =
    h.spelled ∙ ap (λ (q : Request). frame (request_head q) (request_tail q)) (same-bytes_one r s xs ys h k to from e) ∙ sym k.spelled

-- bytes are at most one request
request-one : (r s : Request) (bytes : List ℕ) → IsRequest r bytes → IsRequest s bytes → r ≡ s
request-one r s bytes h k =
    let tails : request_tail r ≡ request_tail s = checked-one (request_tail r) (request_tail s) cc in
    let low : (r.header.net_fn ≡ s.header.net_fn) × (r.header.responder.lun ≡ s.header.responder.lun) = packed-one _ _ _ _ h.header.responder.lun k.header.responder.lun (cc) in
    let high : (r.header.sequence ≡ s.header.sequence) × (r.header.requester.lun ≡ s.header.requester.lun) = packed-one _ _ _ _ h.header.requester.lun k.header.requester.lun (cc) in
    let header : r.header ≡ s.header = header-one r.header s.header (cc) low.1 (cc) high.1 low.0 high.0 (cc) in
    let body : r.body ≡ s.body = cc in
    λ i. record { header = header i; body = body i }

-- bytes are at most one response
response-one : (r s : Response) (bytes : List ℕ) → IsResponse r bytes → IsResponse s bytes → r ≡ s
response-one r s bytes h k =
    let tails : response_tail r ≡ response_tail s = checked-one (response_tail r) (response_tail s) cc in
    let low : (r.header.net_fn + 1 ≡ s.header.net_fn + 1) × (r.header.requester.lun ≡ s.header.requester.lun) = packed-one _ _ _ _ h.header.requester.lun k.header.requester.lun (cc) in
    let high : (r.header.sequence ≡ s.header.sequence) × (r.header.responder.lun ≡ s.header.responder.lun) = packed-one _ _ _ _ h.header.responder.lun k.header.responder.lun (cc) in
    let header : r.header ≡ s.header = header-one r.header s.header (cc) high.1 (cc) low.1 (omega (arith, low.0)) high.0 (cc) in
    let code : r.code ≡ s.code = cc in
    let body : r.body ≡ s.body = cc in
    λ i. record { header = header i; code = code i; body = body i }

-- no bytes are a request and a response
apart : (r : Request) (s : Response) (bytes : List ℕ) → IsRequest r bytes → IsResponse s bytes → ⊥
apart r s bytes h k =
    let low : (r.header.net_fn ≡ s.header.net_fn + 1) × (r.header.responder.lun ≡ s.header.requester.lun) = packed-one _ _ _ _ h.header.responder.lun k.header.requester.lun (cc) in
    let even : r.header.net_fn % 2 ≡ 0 = h.header.even in
    let also : s.header.net_fn % 2 ≡ 0 = k.header.even in
    omega (arith, low.0)

-- bytes are at most one message
pub message-one : (m n : Msg) (bytes : List ℕ) → IsMessage m bytes → IsMessage n bytes → m ≡ n
message-one (msg.Request r) (msg.Request s) bytes h k = ap msg.Request (request-one r s bytes h k)
message-one (msg.Request r) (msg.Response s) bytes h k = absurd (apart r s bytes h k)
message-one (msg.Response r) (msg.Request s) bytes h k = absurd (apart s r bytes k h)
message-one (msg.Response r) (msg.Response s) bytes h k = ap msg.Response (response-one r s bytes h k)

-- a message has at most one frame
pub frame-one : (m : Msg) (xs ys : List ℕ) → IsMessage m xs → IsMessage m ys → xs ≡ ys
frame-one (msg.Request r) xs ys h k = cc (h.spelled, k.spelled)
frame-one (msg.Response r) xs ys h k = cc (h.spelled, k.spelled)
