-- Messages by the places of their fields in the bytes.
use Rattle.std.proofs.Common.{◌≡◌, ℕ, suc, ◌+◌, ◌-◌, ◌<◌, List, [], ◌∷◌, ◌++◌, length, take, drop, get_or, refl, ap, arith, length-drop}
use Rattle.std.proofs.lemmas.List.{length-take}
use Rattle.two_wire.specs.Check.{check_byte}
use Rattle.ipmb_frame.specs.declared.message.Request.{Request}
use Rattle.ipmb_frame.specs.declared.message.Response.{Response}
use Rattle.ipmb_frame.specs.Fault.{IsFaultless}
use Rattle.ipmb_frame.specs.Grammar.{checked, packed, IsHeader, IsRequest, IsResponse}
use Rattle.ipmb_frame.proofs.Checked.{check_byte-front, checked-front}

-- faultless bytes are a frame of what stands at their places
frame_parts : (bytes content : List ℕ) → IsFaultless bytes → ((i : ℕ) → get_or bytes i 0 < 256)
    → content ≡ take (length bytes - 1 - 6) (drop 6 bytes)
    → bytes ≡ checked (get_or bytes 0 0 ∷ get_or bytes 1 0 ∷ []) ++ checked (get_or bytes 3 0 ∷ get_or bytes 4 0 ∷ get_or bytes 5 0 ∷ content)
frame_parts (a ∷ b ∷ c ∷ d ∷ e ∷ f ∷ rest) content faultless small is =
    let check : check_byte (a ∷ b ∷ []) ≡ c = check_byte-front (a ∷ b ∷ []) c (small 2) faultless.head in
    let k : length (a ∷ b ∷ c ∷ d ∷ e ∷ f ∷ rest) - 1 - 6 ≡ length rest - 1 = omega arith in
    let rest_is : content ≡ take (length rest - 1) rest = rw k at is in
    let n : length (d ∷ e ∷ f ∷ rest) - 1 ≡ suc (suc (suc (length rest - 1))) = omega arith in
    let tail : checked (d ∷ e ∷ f ∷ take (length rest - 1) rest) ≡ d ∷ e ∷ f ∷ rest = rw n at (checked-front (d ∷ e ∷ f ∷ rest) (omega arith) (λ i. small (suc (suc (suc i)))) faultless.body) in
    rw (rest_is, check, tail) refl
frame_parts _ content faultless small is = absurd (omega arith)

-- faultless bytes are the request whose fields stand at their places
pub request_is : (bytes : List ℕ) (r : Request) → IsHeader r.header → IsFaultless bytes → ((i : ℕ) → get_or bytes i 0 < 256)
    → r.header.responder.address ≡ get_or bytes 0 0 → packed r.header.net_fn r.header.responder.lun ≡ get_or bytes 1 0
    → r.header.requester.address ≡ get_or bytes 3 0 → packed r.header.sequence r.header.requester.lun ≡ get_or bytes 4 0
    → r.header.command ≡ get_or bytes 5 0 → r.body ≡ take (length bytes - 1 - 6) (drop 6 bytes) → IsRequest r bytes
request_is bytes r header faultless small at0 at1 at3 at4 at5 content = record {
  header = header;
  fits = omega (arith, length-take (length bytes - 1 - 6) (drop 6 bytes), length-drop 6 bytes, ap length content);
  spelled = rw (at0, at1, at3, at4, at5) (frame_parts bytes r.body faultless small content);
}

-- faultless bytes are the response whose fields stand at their places
pub response_is : (bytes : List ℕ) (r : Response) → IsHeader r.header → IsFaultless bytes → ((i : ℕ) → get_or bytes i 0 < 256)
    → r.header.requester.address ≡ get_or bytes 0 0 → packed (r.header.net_fn + 1) r.header.requester.lun ≡ get_or bytes 1 0
    → r.header.responder.address ≡ get_or bytes 3 0 → packed r.header.sequence r.header.responder.lun ≡ get_or bytes 4 0
    → r.header.command ≡ get_or bytes 5 0 → r.code ∷ r.body ≡ take (length bytes - 1 - 6) (drop 6 bytes) → IsResponse r bytes
response_is bytes r header faultless small at0 at1 at3 at4 at5 content = record {
  header = header;
  fits = omega (arith, length-take (length bytes - 1 - 6) (drop 6 bytes), length-drop 6 bytes, ap length content);
  spelled = rw (at0, at1, at3, at4, at5) (frame_parts bytes (r.code ∷ r.body) faultless small content);
}
