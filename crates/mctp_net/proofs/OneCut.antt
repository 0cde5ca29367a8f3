-- A message is cut in one way.
use Rattle.std.proofs.Common.{◌≡◌, ℕ, ◌+◌, ◌==◌, false, List, [], ◌∷◌, ◌++◌, length, map, refl, sym, ◌∙◌, ap, arith, length-append}
use Rattle.std.specs.List.{All}
use Rattle.std.proofs.Math.Seq.{take-append_seam, drop-append_seam}
use Rattle.std.proofs.lemmas.Bool.Decides.{nat_tests}
use Rattle.std.proofs.lemmas.List.{append-nil}
use Rattle.std.proofs.lemmas.List.Elements.{All-tail}
use Rattle.mctp_net.specs.declared.packet.Envelope.{Envelope}
use Rattle.mctp_net.specs.declared.packet.Packet.{Packet}
use Rattle.mctp_net.specs.declared.message.Message.{Message}
use Rattle.mctp_net.specs.Cut.{Piece, piece, IsPiece, EachFrom, carried, IsCut, IsCutOf}

-- pieces of one number with the same place and bytes are one
same_piece : (count other number : ℕ) (p q : Piece) → IsPiece count number p → IsPiece other number q → p.payload ≡ q.payload → (number + 1 == count) ≡ (number + 1 == other) → p ≡ q
same_piece count other number p q h k b last =
    let starts : p.start ≡ q.start = h.started ∙ sym k.started in
    let ends : p.end ≡ q.end = h.ended ∙ last ∙ sym k.ended in
    let numbers : p.sequence ≡ q.sequence = h.numbered ∙ sym k.numbered in
    λ i. record { start = starts i; end = ends i; sequence = numbers i; payload = b i }

-- two lists begin alike where their fronts are as long
fronts : (xs ys us vs : List ℕ) → length xs ≡ length us → xs ++ ys ≡ us ++ vs → (xs ≡ us) × (ys ≡ vs)
fronts xs ys us vs n e =
    (sym (take-append_seam xs ys) ∙ rw (n, e) (take-append_seam us vs), sym (drop-append_seam xs ys) ∙ rw (n, e) (drop-append_seam us vs))

-- the pieces from a number on
same_from : (count other number : ℕ) (ps qs : List Piece) → EachFrom (IsPiece count) number ps → EachFrom (IsPiece other) number qs → number + length ps ≡ count → number + length qs ≡ other
    → carried ps ≡ carried qs → ps ≡ qs
same_from count other number [] [] h k n m bytes = refl
same_from count other number [] (q ∷ qs) h k n m bytes = absurd (omega (arith, k.0.some, ap length bytes, length-append q.payload (carried qs)))
same_from count other number (p ∷ ps) [] h k n m bytes = absurd (omega (arith, h.0.some, ap length bytes, length-append p.payload (carried ps)))
same_from count other number (p ∷ []) (q ∷ []) h k n m bytes =
    let body : p.payload ≡ q.payload = sym (append-nil p.payload) ∙ bytes ∙ append-nil q.payload in
    let same : count ≡ other = omega arith in
    ap (λ x. x ∷ []) (same_piece count other number p q h.0 k.0 body (ap (λ c. number + 1 == c) same))
same_from count other number (p ∷ []) (q ∷ r ∷ qs) h k n m bytes =
    absurd (omega (arith, h.0.fits, k.0.full (omega arith), k.1.0.some, ap length bytes, length-append p.payload [], length-append q.payload (r.payload ++ carried qs), length-append r.payload (carried qs)))
same_from count other number (p ∷ s ∷ ps) (q ∷ []) h k n m bytes =
    absurd (omega (arith, k.0.fits, h.0.full (omega arith), h.1.0.some, ap length bytes, length-append q.payload [], length-append p.payload (s.payload ++ carried ps), length-append s.payload (carried ps)))
same_from count other number (p ∷ s ∷ ps) (q ∷ r ∷ qs) h k n m bytes =
    let long : length p.payload ≡ length q.payload = h.0.full (omega arith) ∙ sym (k.0.full (omega arith)) in
    let parts : (p.payload ≡ q.payload) × (carried (s ∷ ps) ≡ carried (r ∷ qs)) = fronts p.payload (carried (s ∷ ps)) q.payload (carried (r ∷ qs)) long bytes in
    let rest : (s ∷ ps) ≡ (r ∷ qs) = same_from count other (number + 1) (s ∷ ps) (r ∷ qs) h.1 k.1 (omega arith) (omega arith) parts.1 in
    let one : (number + 1 == count) ≡ false = grind (arith, nat_tests) in
    let two : (number + 1 == other) ≡ false = grind (arith, nat_tests) in
    let head : p ≡ q = same_piece count other number p q h.0 k.0 parts.0 (one ∙ sym two) in
    λ i. head i ∷ rest i

-- bytes are cut in one way
pub pieces-one : (body : List ℕ) (ps qs : List Piece) → IsCut body ps → IsCut body qs → ps ≡ qs
pieces-one body ps qs h k = same_from (length ps) (length qs) 0 ps qs h.pieces k.pieces (omega arith) (omega arith) (sym h.joined ∙ k.joined)

-- packets of one envelope are one where their pieces are
same_packets : (e : Envelope) (ps qs : List Packet) → All (λ p. p.envelope ≡ e) ps → All (λ q. q.envelope ≡ e) qs → map piece ps ≡ map piece qs → ps ≡ qs
same_packets e [] [] d f same = refl
same_packets e [] (q ∷ qs) d f same = absurd cc
same_packets e (p ∷ ps) [] d f same = absurd cc
same_packets e (p ∷ ps) (q ∷ qs) d f same =
    let first : piece p ≡ piece q = cc in
    let others : map piece ps ≡ map piece qs = cc in
    let between : p.envelope ≡ q.envelope = d 0 p (omega arith) ∙ sym (f 0 q (omega arith)) in
    let rest : ps ≡ qs = same_packets e ps qs (All-tail (λ x. x.envelope ≡ e) p ps d) (All-tail (λ x. x.envelope ≡ e) q qs f) others in
    λ i. record { envelope = between i; start = (first i).start; end = (first i).end; sequence = (first i).sequence; payload = (first i).payload } ∷ rest i

pub cut-one : (m : Message) (ps qs : List Packet) → IsCutOf m ps → IsCutOf m qs → ps ≡ qs
cut-one m ps qs h k = same_packets m.envelope ps qs h.enveloped k.enveloped (pieces-one m.body (map piece ps) (map piece qs) h.cut k.cut)
