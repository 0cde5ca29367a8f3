-- A message's packets are a cut of it.
use Rattle.std.proofs.Common.{◌≡◌, ℕ, zero, suc, ◌+◌, ◌-◌, ◌*◌, ◌<◌, ◌≤◌, List, [], ◌∷◌, ◌++◌, length, map, take, drop, min, ⊎_elim, refl, sym, ◌∙◌, ap, subst, arith, length-drop}
use Rattle.std.specs.List.{range_with_len, All, refill}
use Rattle.std.proofs.Math.Seq.{take-append_seam}
use Rattle.std.proofs.lemmas.List.{length-map, take-append-drop, length-take, drop-drop, drop_all, take_all}
use Rattle.std.proofs.lemmas.Bool.{cases_lt}
use Rattle.std.proofs.lemmas.List.Elements.{All-nil, All-cons}
use Rattle.std.proofs.lemmas.List.FromFn.{length-map-range_with_len, map-range_with_len_more}
use Rattle.std.proofs.lemmas.Bool.Decides.{nat_tests}
use Rattle.mctp_net.specs.declared.packet.Packet.{Packet}
use Rattle.mctp_net.specs.declared.message.Message.{Message}
use Rattle.mctp_net.specs.Grammar.{IsSpelled}
use Rattle.mctp_net.specs.Cut.{piece, IsPiece, EachFrom, carried, IsCutOf, AreWritten}
use Rattle.mctp_net.specs.Pieces.{piece_of, pieces_of, count_of}

-- a packet of the message is the one of its number
piece_is : (m : Message) (count number : ℕ) → count ≡ count_of m → number < count → IsPiece count number (piece (piece_of m number))
piece_is m count number is low =
    let n : length (take 64 (drop (64 * number) m.body)) ≡ min 64 (length m.body - 64 * number) = length-take 64 (drop (64 * number) m.body) ∙ ap (min 64) (length-drop (64 * number) m.body) in
    record {
      numbered = refl;
      started = refl;
      ended = grind (arith, nat_tests);
      some = omega arith;
      fits = omega arith;
      full = λ h. omega (arith, h);
    }

-- each packet of the message is
pieces_are : (m : Message) (count from so_many : ℕ) → count ≡ count_of m → from + so_many ≡ count → EachFrom (IsPiece count) from (map piece (map (piece_of m) (range_with_len from so_many)))
pieces_are m count from zero is sum = tt
pieces_are m count from (suc so_many) is sum = (piece_is m count from is (omega arith), pieces_are m count (from + 1) so_many is (omega arith))

-- what the packets from one on carry is the rest of the bytes
joined_from : (m : Message) (from so_many : ℕ) → length m.body ≤ 64 * (from + so_many) → drop (64 * from) m.body ≡ carried (map piece (map (piece_of m) (range_with_len from so_many)))
joined_from m from zero all = drop_all (64 * from) m.body (omega arith)
joined_from m from (suc so_many) all =
    let next : drop (64 * (from + 1)) m.body ≡ carried (map piece (map (piece_of m) (range_with_len (from + 1) so_many))) = joined_from m (from + 1) so_many (omega arith) in
    let at : 64 * from + 64 ≡ 64 * (from + 1) = omega arith in
    let rest : drop 64 (drop (64 * from) m.body) ≡ drop (64 * (from + 1)) m.body = drop-drop 64 (64 * from) m.body ∙ ap (λ n. drop n m.body) at in
    sym (take-append-drop 64 (drop (64 * from) m.body)) ∙ ap (λ bytes. take 64 (drop (64 * from) m.body) ++ bytes) (rest ∙ next)

-- all packets have the message's envelope
enveloped_from : (m : Message) (from so_many : ℕ) → All (λ p. p.envelope ≡ m.envelope) (map (piece_of m) (range_with_len from so_many))
enveloped_from m from zero = All-nil (λ p. p.envelope ≡ m.envelope)
enveloped_from m from (suc so_many) = All-cons (λ p. p.envelope ≡ m.envelope) (piece_of m from) _ refl (enveloped_from m (from + 1) so_many)

-- the packets are a cut of the message
pub is_cut : (m : Message) (count : ℕ) → count ≡ count_of m → 0 < length m.body → length m.body ≤ 256 → IsCutOf m (pieces_of m count)
is_cut m count is some fits =
    let n : length (map piece (pieces_of m count)) ≡ count = length-map (pieces_of m count) piece ∙ length-map-range_with_len (piece_of m) 0 count in
    record {
      cut = record {
        some = omega arith;
        few = omega arith;
        pieces = rw n (pieces_are m count 0 count is (omega arith));
        joined = joined_from m 0 count (omega arith);
      };
      enveloped = enveloped_from m 0 count;
    }

-- two lists with one more element
zip_push : (ps : List Packet) (frames : List (List ℕ)) (p : Packet) (frame : List ℕ) → AreWritten ps frames → IsSpelled p 0 frame → AreWritten (ps ++ p ∷ []) (frames ++ frame ∷ [])
zip_push [] [] p frame h k = (k, tt)
zip_push [] (f ∷ fs) p frame h k = absurd h
zip_push (q ∷ qs) [] p frame h k = absurd h
zip_push (q ∷ qs) (f ∷ fs) p frame h k = (h.0, zip_push qs fs p frame h.1 k)

-- one more packet is written
pub written_more : (m : Message) (number : ℕ) (p : Packet) (frames after : List (List ℕ)) (frame : List ℕ) → AreWritten (pieces_of m number) frames → p ≡ piece_of m number → IsSpelled p 0 frame
    → after ≡ frames ++ frame ∷ [] → AreWritten (pieces_of m (number + 1)) after
written_more m number p frames after frame before is spelled more =
    let last : IsSpelled (piece_of m number) 0 frame = rw is at spelled in
    rw (more, map-range_with_len_more (piece_of m) 0 number number (omega arith)) (zip_push (pieces_of m number) frames (piece_of m number) frame before last)

-- the run of a packet, cut off where the bytes end
pub run_is : (bytes : List ℕ) (from to : ℕ) → from ≤ length bytes → to ≡ min (length bytes) (from + 64) → take (to - from) (drop from bytes) ≡ take 64 (drop from bytes)
run_is bytes from to low is =
    let rest : List ℕ = drop from bytes in
    let n : length rest ≡ length bytes - from = length-drop from bytes in
    ⊎_elim
    (λ h. let k : to - from ≡ 64 = omega (arith, n, h) in ap (λ k. take k rest) k)
    (λ h. take_all (to - from) rest (omega (arith, n, h)) ∙ sym (take_all 64 rest (omega (arith, n, h))))
    (cases_lt 64 (length rest))

-- a list that takes the place of one as long
pub refilled : {X : Type 0} (n : ℕ) (xs ws : List X) → length ws ≡ n → refill n xs ws ≡ ws
refilled n xs ws same = subst (λ (k : ℕ). take k (ws ++ drop (length ws) xs) ≡ ws) same (take-append_seam ws (drop (length ws) xs))
