-- A message that is cut comes back whole.
use Rattle.std.proofs.Common.{◌≡◌, ℕ, ◌+◌, ◌<◌, ◌≤◌, ◌==◌, true, false, cond, List, [], ◌∷◌, ◌++◌, length, map, refl, sym, ◌∙◌, ap, subst, arith, length-append, append_assoc}
use Rattle.std.specs.List.{All}
use Rattle.std.proofs.lemmas.Bool.Decides.{nat_tests}
use Rattle.std.proofs.lemmas.List.Elements.{All-tail}
use Rattle.std.proofs.lemmas.List.{length-map}
use Rattle.mctp_net.specs.declared.packet.Name.{Name}
use Rattle.mctp_net.specs.declared.packet.Packet.{Packet}
use Rattle.mctp_net.specs.declared.message.Message.{Message}
use Rattle.mctp_net.specs.Cut.{Piece, piece, IsPiece, EachFrom, IsCut, IsCutOf}
use Rattle.mctp_net.specs.Assembly.{Assemblies, name_of, is_name, joined_to, open_beside, is_ours, ended, kept_with, after_where, after, IsPieceTaken, ComesBack}
use Rattle.mctp_net.specs.Sound.{FitsAssembly}
use Rattle.mctp_net.proofs.Names.{name-self}
use Rattle.mctp_net.proofs.Causes.{passes_back, joined-start, joined-more}

-- what is kept after a packet that is taken
after-taken : (own : ℕ) (a : Assemblies) (p : Packet) → IsPieceTaken own a p → after own a p ≡ kept_with p a
after-taken own a p h = ap (λ cause. after_where cause p a) h.kept_on ∙ ap (λ b. cond b (ended p a) (kept_with p a)) h.more

-- what waits under the name then
under-taken : (a : Assemblies) (p : Packet) (n : Name) → name_of p.envelope ≡ n → (kept_with p a).under n ≡ joined_to p a ++ piece p ∷ []
under-taken a p n e = ap (λ b. cond b (joined_to p a ++ piece p ∷ []) (a.under n)) (subst (λ x. is_name n x ≡ true) (sym e) (name-self n))

-- the packets behind the first ones
rest-comes : (own : ℕ) (m : Message) (count : ℕ) (rest : List Packet) (front : List Piece) (a : Assemblies) → EachFrom (IsPiece count) (length front) (map piece rest) → length front + length rest ≡ count → count ≤ 4
    → 0 < length front → 0 < length rest → All (λ p. p.envelope ≡ m.envelope) rest → All (λ p. is_ours own p ≡ true) rest
    → a.under (name_of m.envelope) ≡ front → IsCut m.body (front ++ map piece rest) → ComesBack own a rest m
rest-comes own m count [] front a pieces sum few some more enveloped ours under cut = absurd (omega arith)
rest-comes own m count (p ∷ []) front a pieces sum few some more enveloped ours under cut =
    let mine : p.envelope ≡ m.envelope = enveloped 0 p (omega arith) in
    let no : (length front == 0) ≡ false = grind (arith, nat_tests) in
    let start : p.start ≡ false = pieces.0.started ∙ no in
    let joined : joined_to p a ≡ front = joined-more p a start ∙ ap (λ e. a.under (name_of e)) mine ∙ under in
    record {
      ours = ours 0 p (omega arith);
      enveloped = sym mine;
      cut = subst (λ ps. IsCut m.body (ps ++ piece p ∷ [])) (sym joined) cut;
    }
rest-comes own m count (p ∷ q ∷ rest) front a pieces sum few some more enveloped ours under cut =
    let mine : p.envelope ≡ m.envelope = enveloped 0 p (omega arith) in
    let no : (length front == 0) ≡ false = grind (arith, nat_tests) in
    let start : p.start ≡ false = pieces.0.started ∙ no in
    let joined : joined_to p a ≡ front = joined-more p a start ∙ ap (λ e. a.under (name_of e)) mine ∙ under in
    let long : length (joined_to p a) ≡ length front = ap length joined in
    let not_last : (length front + 1 == count) ≡ false = grind (arith, nat_tests) in
    let fits : FitsAssembly a p = record {
      few = omega arith;
      numbered = pieces.0.numbered ∙ sym long;
      started = pieces.0.started ∙ ap (λ n. n == 0) (sym long);
      full = λ _. pieces.0.full (omega arith);
      slots = λ yes _. absurd (let bad : true ≡ false = sym yes ∙ start in cc);
    } in
    let taken : IsPieceTaken own a p = record { kept_on = passes_back own a p (ours 0 p (omega arith)) fits; more = pieces.0.ended ∙ not_last } in
    let next : length front + 1 ≡ length (front ++ piece p ∷ []) = sym (length-append front (piece p ∷ [])) in (
      taken,
      subst (λ b. ComesBack own b (q ∷ rest) m) (sym (after-taken own a p taken))
          (rest-comes own m count (q ∷ rest) (front ++ piece p ∷ []) (kept_with p a)
          (subst (λ n. EachFrom (IsPiece count) n (map piece (q ∷ rest))) next pieces.1) (omega arith) few (omega arith) (omega arith)
          (All-tail (λ x. x.envelope ≡ m.envelope) p (q ∷ rest) enveloped) (All-tail (λ x. is_ours own x ≡ true) p (q ∷ rest) ours)
          (under-taken a p (name_of m.envelope) (ap name_of mine) ∙ ap (λ ps. ps ++ piece p ∷ []) joined)
          (rw (append_assoc front (piece p ∷ []) (map piece (q ∷ rest))) cut)),
    )

-- all of them
pub cut-comes_back : (own : ℕ) (a : Assemblies) (m : Message) (ps : List Packet) → IsCutOf m ps → All (λ p. is_ours own p ≡ true) ps
    → (1 < length ps → open_beside (name_of m.envelope) a < 8) → ComesBack own a ps m
cut-comes_back own a m [] h ours room = absurd (omega (arith, h.cut.some))
cut-comes_back own a m (p ∷ []) h ours room =
    let start : p.start ≡ true = h.cut.pieces.0.started in
    let joined : joined_to p a ≡ [] = rw start refl in
    record {
      ours = ours 0 p (omega arith);
      enveloped = sym (h.enveloped 0 p (omega arith));
      cut = subst (λ ps. IsCut m.body (ps ++ piece p ∷ [])) (sym joined) h.cut;
    }
cut-comes_back own a m (p ∷ q ∷ rest) h ours room =
    let mine : p.envelope ≡ m.envelope = h.enveloped 0 p (omega arith) in
    let start : p.start ≡ true = h.cut.pieces.0.started in
    let none : joined_to p a ≡ [] = rw start refl in
    let long : length (joined_to p a) ≡ 0 = joined-start p a start in
    let count : ℕ = length (map piece (p ∷ q ∷ rest)) in
    let all : length (map piece rest) ≡ length rest = length-map rest piece in
    let few : count ≤ 4 = h.cut.few in
    let not_last : (0 + 1 == count) ≡ false = grind (arith, nat_tests) in
    let free : open_beside (name_of p.envelope) a < 8 = subst (λ e. open_beside (name_of e) a < 8) (sym mine) (room (omega arith)) in
    let fits : FitsAssembly a p = record {
      few = omega arith;
      numbered = h.cut.pieces.0.numbered ∙ sym long;
      started = h.cut.pieces.0.started ∙ ap (λ n. n == 0) (sym long);
      full = λ _. h.cut.pieces.0.full (omega arith);
      slots = λ _ _. free;
    } in
    let taken : IsPieceTaken own a p = record { kept_on = passes_back own a p (ours 0 p (omega arith)) fits; more = h.cut.pieces.0.ended ∙ not_last } in (
      taken,
      subst (λ b. ComesBack own b (q ∷ rest) m) (sym (after-taken own a p taken))
          (rest-comes own m count (q ∷ rest) (piece p ∷ []) (kept_with p a) h.cut.pieces.1 (omega arith) few (omega arith) (omega arith)
          (All-tail (λ x. x.envelope ≡ m.envelope) p (q ∷ rest) h.enveloped) (All-tail (λ x. is_ours own x ≡ true) p (q ∷ rest) ours)
          (under-taken a p (name_of m.envelope) (ap name_of mine) ∙ ap (λ ps. ps ++ piece p ∷ []) none)
          h.cut),
    )
