-- Runs of 64 bytes are a cut.
use Rattle.std.proofs.Common.{◌≡◌, ℕ, zero, suc, ◌+◌, ◌*◌, ◌≤◌, eqb, true, false, leb, List, [], ◌∷◌, ◌++◌, length, take, drop, refl, sym, subst, arith, length-drop, inl, inr}
use Rattle.std.proofs.lemmas.Bool.{cond_both, leb-true, leb-false}
use Rattle.std.proofs.lemmas.List.{length-take-le, take-append-drop}
use Rattle.model_bus.specs.Repeat.{In}
use Rattle.model_bus.specs.Packet.{Packet, IsCutFrom, IsCut, IsCutting, CutsAll, packets_from, packets_of}

-- one more packet before a cut
put_before : (place : ℕ) (p : Packet) (ps : List Packet) (bytes rest : List ℕ) → p.sequence ≡ place → p.first ≡ eqb place 0 → p.last ≡ false → length p.payload ≡ 64 → bytes ≡ p.payload ++ rest → IsCutFrom (suc place) ps rest
    → IsCutFrom place (p ∷ ps) bytes
put_before place p [] bytes rest at first last size whole h = absurd h
put_before place p (q ∷ qs) bytes rest at first last size whole h = (at, first, last, size, rest, whole, h)

cut_of : (left place : ℕ) (bytes : List ℕ) → length bytes ≤ 64 * left + 64 → IsCutFrom place (packets_from (suc left) place bytes) bytes × (length (packets_from (suc left) place bytes) ≤ suc left)
cut_of zero place bytes fits =
    cond_both (leb (length bytes) 64) (record { first = eqb place 0; last = true; sequence = place; payload = bytes } ∷ [])
    (record { first = eqb place 0; last = false; sequence = place; payload = take 64 bytes } ∷ []) (λ ps. IsCutFrom place ps bytes × (length ps ≤ 1))
    (λ t. ((refl, refl, refl, refl), omega arith))
    (λ f. absurd (let more = leb-false (length bytes) 64 f in omega arith))
cut_of (suc left) place bytes fits =
    cond_both (leb (length bytes) 64) (record { first = eqb place 0; last = true; sequence = place; payload = bytes } ∷ [])
    (record { first = eqb place 0; last = false; sequence = place; payload = take 64 bytes } ∷ packets_from (suc left) (suc place) (drop 64 bytes)) (λ ps. IsCutFrom place ps bytes × (length ps ≤ suc (suc left)))
    (λ t. ((refl, refl, refl, refl), omega arith))
    (λ f.
    let more = leb-false (length bytes) 64 f in
    let rest_length = length-drop 64 bytes in
    let next = cut_of left (suc place) (drop 64 bytes) (omega arith) in
    let size : length (take 64 bytes) ≡ 64 = length-take-le 64 bytes (omega arith) in
    let whole : bytes ≡ take 64 bytes ++ drop 64 bytes = sym (take-append-drop 64 bytes) in
    let count = next.1 in
    (put_before place (record { first = eqb place 0; last = false; sequence = place; payload = take 64 bytes }) (packets_from (suc left) (suc place) (drop 64 bytes)) bytes (drop 64 bytes) refl refl refl size whole next.0, omega arith))

pub packets_cut : IsCutting packets_of
packets_cut bytes p =
    cond_both (leb (length bytes) 256) (packets_from 4 0 bytes) [] (λ ps. In p ps → IsCut ps bytes)
    (λ t is. let within = leb-true (length bytes) 256 t in let h = cut_of 3 0 bytes (omega arith) in (h.1, h.0))
    (λ f is. absurd is)

within_64 : (left place : ℕ) (bytes : List ℕ) (p : Packet) → In p (packets_from left place bytes) → length p.payload ≤ 64
within_64 zero place bytes p is = absurd is
within_64 (suc left) place bytes p is =
    let Fits : Packet → Type 0 = (λ p. length p.payload ≤ 64) in
    let whole : Packet = record { first = eqb place 0; last = true; sequence = place; payload = bytes } in
    let run : Packet = record { first = eqb place 0; last = false; sequence = place; payload = take 64 bytes } in
    cond_both (leb (length bytes) 64) (whole ∷ []) (run ∷ packets_from left (suc place) (drop 64 bytes)) (λ ps. In p ps → length p.payload ≤ 64)
    (λ t is. elim is [ inl e ↦ subst Fits e (leb-true (length bytes) 64 t) | inr never_one ↦ absurd never_one ])
    (λ f is.
    let more = leb-false (length bytes) 64 f in
    let size : length (take 64 bytes) ≡ 64 = length-take-le 64 bytes (omega arith) in
    elim is [ inl e ↦ subst Fits e (omega arith) | inr later ↦ within_64 left (suc place) (drop 64 bytes) p later ])
    is

pub cuts_all : CutsAll packets_of
cuts_all bytes fits =
    let h = cut_of 3 0 bytes (omega arith) in
    cond_both (leb (length bytes) 256) (packets_from 4 0 bytes) [] (λ ps. IsCut ps bytes × ((p : Packet) → In p ps → length p.payload ≤ 64))
    (λ t. ((h.1, h.0), within_64 4 0 bytes))
    (λ f. absurd (let more = leb-false (length bytes) 256 f in omega arith))
