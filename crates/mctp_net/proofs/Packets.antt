-- Packets as bytes.
use Rattle.std.proofs.Common.{◌≡◌, ℕ, suc, ◌+◌, ◌-◌, ◌*◌, ◌/◌, ◌%◌, ◌==◌, ◌<◌, ◌≤◌, not, List, [], ◌∷◌, ◌++◌, length, map, take, drop, get_or, refl, sym, ◌∙◌, ap, arith, length-drop}
use Rattle.std.proofs.lemmas.List.{take_more, length-take}
use Rattle.std.proofs.Math.Seq.{take-length}
use Rattle.std.specs.Prelude.{bit_and}
use Rattle.std.specs.List.{range_with_len}
use Rattle.std.proofs.lemmas.List.FromFn.{get_or-map-range_with_len, get_or-range_with_len}
use Rattle.two_wire.specs.Circles.{tags}
use Rattle.two_wire.specs.Pec.{pec}
use Rattle.mctp_net.specs.declared.packet.Packet.{Packet}
use Rattle.mctp_net.specs.Grammar.{bit, flags_of, unchecked, with_pec, IsEnvelope, IsPacket}

-- all bytes but the last, with the last behind them
pub all_but_last : (bytes : List ℕ) → 0 < length bytes → take (length bytes - 1) bytes ++ get_or bytes (length bytes - 1) 0 ∷ [] ≡ bytes
all_but_last bytes some =
    let n : ℕ = length bytes - 1 in
    sym (take_more bytes n 0 (omega arith)) ∙ (let e : n + 1 ≡ length bytes = omega arith in rw e (take-length bytes))

-- bytes whose last is their packet error code
pub pec-front : (bytes : List ℕ) → 0 < length bytes → pec (take (length bytes - 1) bytes) ≡ get_or bytes (length bytes - 1) 0 → with_pec (take (length bytes - 1) bytes) ≡ bytes
pec-front bytes some is = rw is (all_but_last bytes some)

-- the places of a packet's bytes
pub front_parts : (bytes : List ℕ) → 10 ≤ length bytes
    → take (length bytes - 1) bytes
    ≡ get_or bytes 0 0 ∷ get_or bytes 1 0 ∷ get_or bytes 2 0 ∷ get_or bytes 3 0 ∷ get_or bytes 4 0 ∷ get_or bytes 5 0 ∷ get_or bytes 6 0 ∷ get_or bytes 7 0
    ∷ take (length bytes - 1 - 8) (drop 8 bytes)
front_parts (a ∷ b ∷ c ∷ d ∷ e ∷ f ∷ g ∷ h ∷ rest) long =
    let k : length (a ∷ b ∷ c ∷ d ∷ e ∷ f ∷ g ∷ h ∷ rest) - 1 ≡ suc (suc (suc (suc (suc (suc (suc (suc (length rest - 1)))))))) = omega arith in
    let n : suc (suc (suc (suc (suc (suc (suc (suc (length rest - 1)))))))) - 8 ≡ length rest - 1 = omega arith in
    rw (k, n) refl
front_parts _ long = absurd (omega arith)

-- a byte is its flags
abbrev pub flags_from : ℕ → ℕ
flags_from b =
    128 * bit (not (bit_and b 128 == 0)) + 64 * bit (not (bit_and b 64 == 0)) + 16 * bit_and (b / 16) 3 + 8 * bit (not (bit_and b 8 == 0)) + b % tags

all_flags : map flags_from (range_with_len 0 256) ≡ range_with_len 0 256
all_flags = refl

pub flags_is : (b : ℕ) → b < 256 → flags_from b ≡ b
flags_is b h =
    let at : get_or (range_with_len 0 256) b 0 ≡ b = omega (arith, get_or-range_with_len 0 256 b 0 h) in
    sym (get_or-map-range_with_len flags_from 0 256 b b 0 h (omega arith)) ∙ ap (λ t. get_or t b 0) all_flags ∙ at

-- a packet is what its fields are in the bytes
pub packet_is : (bytes : List ℕ) (p : Packet) → 10 ≤ length bytes → length bytes ≤ 73
    → IsEnvelope p.envelope → p.sequence < 4
    → pec (take (length bytes - 1) bytes) ≡ get_or bytes (length bytes - 1) 0
    → p.envelope.destination ≡ get_or bytes 0 0 → 15 ≡ get_or bytes 1 0 → get_or bytes 2 0 + 4 ≡ length bytes → p.envelope.source + 1 ≡ get_or bytes 3 0
    → get_or bytes 4 0 % 16 ≡ 1 → get_or bytes 4 0 < 256 → p.envelope.destination_eid ≡ get_or bytes 5 0 → p.envelope.source_eid ≡ get_or bytes 6 0
    → flags_of p ≡ get_or bytes 7 0 → p.payload ≡ take (length bytes - 1 - 8) (drop 8 bytes) → IsPacket p bytes
packet_is bytes p low high envelope sequence pec at0 at1 at2 at3 version small at5 at6 at7 body =
    let ignored : ℕ = get_or bytes 4 0 / 16 in
    let long : length p.payload ≡ length bytes - 9 = omega (arith, length-take (length bytes - 1 - 8) (drop 8 bytes), length-drop 8 bytes, ap length body) in
    let count : 5 + length p.payload ≡ get_or bytes 2 0 = omega arith in
    let at4 : 16 * ignored + 1 ≡ get_or bytes 4 0 = omega arith in
    let front : unchecked p ignored ≡ take (length bytes - 1) bytes = rw (at0, at1, count, at3, at4, at5, at6, at7, body) (sym (front_parts bytes low)) in (
      ignored,
      omega arith,
      record {
        envelope = envelope;
        sequence = sequence;
        some = omega arith;
        fits = omega arith;
        spelled = sym (ap with_pec front ∙ pec-front bytes (omega arith) pec);
      },
    )
