-- The packets of a message are those of the model's cut.
use Rattle.std.proofs.Common.{◌≡◌, ℕ, zero, suc, ◌+◌, ◌*◌, ◌<◌, ◌≤◌, ◌==◌, nat_le, Bool, true, false, cond, List, [], ◌∷◌, ◌++◌, length, map, take, drop, sym, ◌∙◌, ap, arith, length-append}
use Rattle.std.proofs.Math.Seq.{take-append_seam, drop-append_seam}
use Rattle.std.proofs.lemmas.Bool.Decides.{nat_tests}
use Rattle.std.proofs.lemmas.Bool.{eq-eqb}
use Rattle.std.proofs.lemmas.List.{append-nil}
use Rattle.std.proofs.lemmas.Simd.{map-map}
use Rattle.mctp_net.specs.declared.packet.Packet.{Packet}
use Rattle.mctp_net.specs.declared.message.Message.{Message}
use Rattle.mctp_net.specs.Cut.{Piece, piece, IsPiece, EachFrom, carried, IsCutOf}
use Rattle.model_bus.specs.Packet.{Packet as ModelPacket, packets_from, packets_of}
use Rattle.bmc_core.specs.Seen.{seen}

-- pieces carry at most 64 bytes each
carried-length : (count number : ℕ) (ps : List Piece) → EachFrom (IsPiece count) number ps → length (carried ps) ≤ 64 * length ps
carried-length count number [] h = omega arith
carried-length count number (p ∷ ps) h = omega (arith, length-append p.payload (carried ps), h.0.fits, carried-length count (number + 1) ps h.1)

-- what is seen of a piece with these fields
seen-is : (p : Piece) (m : ModelPacket) → p.start ≡ m.first → p.end ≡ m.last → p.sequence ≡ m.sequence → p.payload ≡ m.payload → seen p ≡ m
seen-is p m first last sequence payload = λ i. record { first = first i; last = last i; sequence = sequence i; payload = payload i }

-- the pieces from a number on are the model's packets from there on
pieces-agree : (count left number : ℕ) (ps : List Piece) → EachFrom (IsPiece count) number ps → number + length ps ≡ count → 0 < length ps → length ps ≤ left
    → map seen ps ≡ packets_from left number (carried ps)
pieces-agree count left number [] h sum some few = absurd (omega arith)
pieces-agree count zero number (p ∷ ps) h sum some few = absurd (omega arith)
pieces-agree count (suc left) number (p ∷ []) h sum some few =
    let bytes : carried (p ∷ []) ≡ p.payload = append-nil p.payload in
    let last : (number + 1 == count) ≡ true = eq-eqb (number + 1) count (omega arith) in
    let short : nat_le (length (carried (p ∷ []))) 64 ≡ true = (let n : length (carried (p ∷ [])) ≡ length p.payload = ap length bytes in let f : length p.payload ≤ 64 = h.0.fits in grind (arith, nat_tests)) in
    let one : ModelPacket = record { first = number == 0; last = true; sequence = number; payload = carried (p ∷ []) } in
    ap (λ m. m ∷ []) (seen-is p one h.0.started (h.0.ended ∙ last) h.0.numbered (sym bytes))
    ∙ sym (ap (λ (b : Bool). cond b (one ∷ []) (record { first = number == 0; last = false; sequence = number; payload = take 64 (carried (p ∷ [])) } ∷ packets_from left (suc number) (drop 64 (carried (p ∷ []))))) short)
pieces-agree count (suc left) number (p ∷ q ∷ ps) h sum some few =
    let rest : List ℕ = carried (q ∷ ps) in
    let run : length p.payload ≡ 64 = h.0.full (omega arith) in
    let more : 0 < length rest = omega (arith, h.1.0.some, length-append q.payload (carried ps)) in
    let long : nat_le (length (p.payload ++ rest)) 64 ≡ false = (let n : length (p.payload ++ rest) ≡ length p.payload + length rest = length-append p.payload rest in grind (arith, nat_tests)) in
    let front : take 64 (p.payload ++ rest) ≡ p.payload = ap (λ n. take n (p.payload ++ rest)) (sym run) ∙ take-append_seam p.payload rest in
    let behind : drop 64 (p.payload ++ rest) ≡ rest = ap (λ n. drop n (p.payload ++ rest)) (sym run) ∙ drop-append_seam p.payload rest in
    let no : (number + 1 == count) ≡ false = grind (arith, nat_tests) in
    let next : number + 1 ≡ suc number = omega arith in
    let first : ModelPacket = record { first = number == 0; last = false; sequence = number; payload = take 64 (p.payload ++ rest) } in
    let tail : map seen (q ∷ ps) ≡ packets_from left (suc number) (drop 64 (p.payload ++ rest)) =
    pieces-agree count left (number + 1) (q ∷ ps) h.1 (omega arith) (omega arith) (omega arith) ∙ ap (λ n. packets_from left n rest) next ∙ ap (packets_from left (suc number)) (sym behind) in
    (λ i. seen-is p first h.0.started (h.0.ended ∙ no) h.0.numbered (sym front) i ∷ tail i)
    ∙ sym (ap (λ (b : Bool). cond b (record { first = number == 0; last = true; sequence = number; payload = p.payload ++ rest } ∷ []) (first ∷ packets_from left (suc number) (drop 64 (p.payload ++ rest)))) long)

pub packets-agree : (m : Message) (ps : List Packet) → IsCutOf m ps → map (λ (p : Packet). seen (piece p)) ps ≡ packets_of m.body
packets-agree m ps h =
    let qs : List Piece = map piece ps in
    let fits : length m.body ≤ 256 = omega (arith, ap length h.cut.joined, carried-length (length qs) 0 qs h.cut.pieces, h.cut.few) in
    let within : nat_le (length m.body) 256 ≡ true = grind (arith, nat_tests) in
    sym (map-map seen piece ps)
    ∙ pieces-agree (length qs) 4 0 qs h.cut.pieces (omega arith) h.cut.some h.cut.few
    ∙ ap (packets_from 4 0) (sym h.cut.joined)
    ∙ sym (ap (λ (b : Bool). cond b (packets_from 4 0 m.body) []) within)
