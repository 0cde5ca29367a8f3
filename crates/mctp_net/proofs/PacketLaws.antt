-- What the grammar of packets rules out.
use Rattle.std.proofs.Common.{◌≡◌, ℕ, ◌+◌, ◌-◌, ◌%◌, ◌==◌, ◌<◌, ◌≤◌, Bool, true, false, not, List, [], ◌∷◌, ◌++◌, length, take, get_or, refl, sym, ◌∙◌, ap, arith, length-append, find, None}
use Rattle.std.proofs.lemmas.Bool.{eq-eqb}
use Rattle.std.proofs.lemmas.Bool.Decides.{nat_tests}
use Rattle.std.proofs.Math.Seq.{take-append_seam, get_or-append_seam}
use Rattle.two_wire.specs.Circles.{tags}
use Rattle.two_wire.specs.Pec.{pec}
use Rattle.mctp_net.specs.declared.fault.PacketFault.TheVariants.{Short, NotMctp, Count, Pec, Version}
use Rattle.mctp_net.specs.declared.packet.Packet.{Packet}
use Rattle.mctp_net.specs.Grammar.{bit, flags_of, unchecked, with_pec, has_fault, faults, IsEnvelope, IsPacket}

-- a list with one more element has one front
push-front : (xs ys : List ℕ) (x y : ℕ) → xs ++ x ∷ [] ≡ ys ++ y ∷ [] → xs ≡ ys
push-front xs ys x y e =
    let n : length xs ≡ length ys = omega (arith, length-append xs (x ∷ []), length-append ys (y ∷ []), ap length e) in
    sym (take-append_seam xs (x ∷ [])) ∙ (rw (n, e) (take-append_seam ys (y ∷ [])))

-- a flag is its number
pub bit-one : (a b : Bool) → bit a ≡ bit b → a ≡ b
bit-one true true e = refl
bit-one false false e = refl
bit-one true false e = absurd (omega arith)
bit-one false true e = absurd (omega arith)

pub bit-lt : (a : Bool) → bit a < 2
bit-lt true = omega arith
bit-lt false = omega arith

-- bytes are at most one packet
pub packet-one : (p q : Packet) (bytes : List ℕ) → IsPacket p bytes → IsPacket q bytes → p ≡ q
packet-one p q bytes (i, low, h) (j, also, k) =
    let front : unchecked p i ≡ unchecked q j = push-front (unchecked p i) (unchecked q j) (pec (unchecked p i)) (pec (unchecked q j)) (sym h.spelled ∙ k.spelled) in
    let destination : p.envelope.destination ≡ q.envelope.destination = cc in
    let source : p.envelope.source + 1 ≡ q.envelope.source + 1 = cc in
    let destination_eid : p.envelope.destination_eid ≡ q.envelope.destination_eid = cc in
    let source_eid : p.envelope.source_eid ≡ q.envelope.source_eid = cc in
    let flags : flags_of p ≡ flags_of q = cc in
    let payload : p.payload ≡ q.payload = cc in
    let source_is : p.envelope.source ≡ q.envelope.source = omega arith in
    let a = bit-lt p.start in let b = bit-lt p.end in let c = bit-lt p.envelope.tag_owner in
    let d = bit-lt q.start in let e = bit-lt q.end in let f = bit-lt q.envelope.tag_owner in
    let t : p.envelope.tag < tags = h.envelope.tag in let u : q.envelope.tag < tags = k.envelope.tag in
    let start : p.start ≡ q.start = bit-one p.start q.start (omega arith) in
    let end : p.end ≡ q.end = bit-one p.end q.end (omega arith) in
    let owner : p.envelope.tag_owner ≡ q.envelope.tag_owner = bit-one p.envelope.tag_owner q.envelope.tag_owner (omega arith) in
    let sequence : p.sequence ≡ q.sequence = omega arith in
    let tag : p.envelope.tag ≡ q.envelope.tag = omega arith in
    λ n. record {
      envelope = record {
        destination = destination n;
        source = source_is n;
        destination_eid = destination_eid n;
        source_eid = source_eid n;
        tag_owner = owner n;
        tag = tag n;
      };
      start = start n;
      end = end n;
      sequence = sequence n;
      payload = payload n;
    }

-- the last byte behind its front is the front's packet error code
pec-holds : (front : List ℕ) → not (pec (take (length (with_pec front) - 1) (with_pec front)) == get_or (with_pec front) (length (with_pec front) - 1) 0) ≡ false
pec-holds front =
    let n : length (with_pec front) - 1 ≡ length front = omega (arith, length-append front (pec front ∷ [])) in
    rw (n, take-append_seam front (pec front ∷ []), get_or-append_seam front (pec front) [] 0, eq-eqb (pec front) (pec front) refl) refl

-- a packet has no fault
pub packet-whole : (p : Packet) (bytes : List ℕ) → IsPacket p bytes → find (has_fault bytes) faults ≡ None
packet-whole p bytes (i, low, h) = rw h.spelled (no_fault p i low h.envelope h.some h.fits)
  where
    no_fault : (p : Packet) (i : ℕ) → i < 16 → IsEnvelope p.envelope → 0 < length p.payload → length p.payload ≤ 64
        → find (has_fault (with_pec (unchecked p i))) faults ≡ None
    no_fault p i low envelope some fits =
        let bytes : List ℕ = with_pec (unchecked p i) in
        let n : length bytes ≡ length p.payload + 9 = omega (arith, length-append p.payload (pec (unchecked p i) ∷ [])) in
        let even : p.envelope.destination % 2 ≡ 0 = envelope.destination.1 in
        let also : p.envelope.source % 2 ≡ 0 = envelope.source.1 in
        let short : has_fault bytes Short ≡ false = grind (arith, nat_tests) in
        let mctp : has_fault bytes NotMctp ≡ false = grind (arith, nat_tests) in
        let count : has_fault bytes Count ≡ false = grind (arith, nat_tests) in
        let pec : has_fault bytes Pec ≡ false = pec-holds (unchecked p i) in
        let version : has_fault bytes Version ≡ false = grind (arith, nat_tests) in
        rw (short, mctp, count, pec, version) refl
