-- Which packets make a message whole.
use Rattle.std.proofs.Common.{◌≡◌, ℕ, suc, ◌+◌, ◌<◌, ◌≤◌, ◌==◌, Bool, true, false, cond, List, [], ◌∷◌, ◌++◌, length, refl, sym, ◌∙◌, ap, subst, arith, length-append, Some, None}
use Rattle.std.proofs.lemmas.Grind.{flat_map-append}
use Rattle.std.proofs.lemmas.Bool.{eq-eqb}
use Rattle.std.proofs.lemmas.Bool.Decides.{nat_tests}
use Rattle.std.proofs.lemmas.List.{append-nil}
use Rattle.mctp_net.specs.declared.packet.Packet.{Packet}
use Rattle.mctp_net.specs.declared.message.Message.{Message}
use Rattle.mctp_net.specs.declared.taken.DropCause.{DropCause}
use Rattle.mctp_net.specs.declared.taken.Taken.TheVariants as taken
use Rattle.mctp_net.specs.Cut.{Piece, piece, IsPiece, EachFrom, carried, IsCut}
use Rattle.mctp_net.specs.Assembly.{Assemblies, taken_under, joined_to, is_ours, drop_cause, ended, message_of, MakesWhole}
use Rattle.mctp_net.specs.Sound.{IsWaitingAt, FitsAssembly}
use Rattle.mctp_net.proofs.Soundness.{each_push, joined-waiting}
use Rattle.mctp_net.proofs.Causes.{passes, passes_back}

-- the last piece of a list has its place
pub each_last : (P : ℕ → Piece → Type 0) (from : ℕ) (ps : List Piece) (p : Piece) → EachFrom P from (ps ++ p ∷ []) → P (from + length ps) p
each_last P from [] p h = let e : from ≡ from + 0 = omega arith in subst (λ n. P n p) e h.0
each_last P from (q ∷ qs) p h = let e : from + 1 + length qs ≡ from + suc (length qs) = omega arith in subst (λ n. P n p) e (each_last P (from + 1) qs p h.1)

-- a packet that makes a message whole fits
pub whole-fits : (own : ℕ) (a : Assemblies) (p : Packet) (m : Message) → MakesWhole own a p m → FitsAssembly a p × (p.end ≡ true)
whole-fits own a p m h =
    let front : List Piece = joined_to p a in
    let count : length (front ++ piece p ∷ []) ≡ length front + 1 = length-append front (piece p ∷ []) in
    let at : IsPiece (length (front ++ piece p ∷ [])) (0 + length front) (piece p) = each_last (IsPiece (length (front ++ piece p ∷ []))) 0 front (piece p) h.cut.pieces in
    let place : 0 + length front ≡ length front = omega arith in
    let last : (0 + length front + 1 == length (front ++ piece p ∷ [])) ≡ true = eq-eqb (0 + length front + 1) (length (front ++ piece p ∷ [])) (omega arith) in
    let end : p.end ≡ true = at.ended ∙ last in (
      record {
        few = omega (arith, h.cut.few);
        numbered = at.numbered ∙ place;
        started = at.started ∙ ap (λ n. n == 0) place;
        full = λ more. absurd (let no : true ≡ false = sym end ∙ more in cc);
        slots = λ start more. absurd (let no : true ≡ false = sym end ∙ more in cc);
      },
      end,
    )

pub whole-passes : (own : ℕ) (a : Assemblies) (p : Packet) (m : Message) → MakesWhole own a p m → drop_cause own a p ≡ None
whole-passes own a p m h = passes_back own a p h.ours (whole-fits own a p m h).0

-- pieces that wait are pieces of a longer cut
pieces-waiting : (count from : ℕ) (ps : List Piece) → from + length ps < count → EachFrom IsWaitingAt from ps → EachFrom (IsPiece count) from ps
pieces-waiting count from [] low h = tt
pieces-waiting count from (p ∷ ps) low h =
    let more : from + 1 < count = omega arith in
    let no : (from + 1 == count) ≡ false = grind (arith, nat_tests) in (
      record {
        numbered = h.0.numbered;
        started = h.0.started;
        ended = h.0.ended ∙ sym no;
        some = omega (arith, h.0.full);
        fits = omega (arith, h.0.full);
        full = λ _. h.0.full;
      },
      pieces-waiting count (from + 1) ps (omega arith) h.1,
    )

-- a packet that fits and is an end ends a cut
ends-cut : (a : Assemblies) (p : Packet) → EachFrom IsWaitingAt 0 (taken_under p a) → FitsAssembly a p → p.end ≡ true → 0 < length p.payload → length p.payload ≤ 64
    → IsCut (carried (joined_to p a ++ piece p ∷ [])) (joined_to p a ++ piece p ∷ [])
ends-cut a p waits fits end some most =
    let front : List Piece = joined_to p a in
    let count : length (front ++ piece p ∷ []) ≡ length front + 1 = length-append front (piece p ∷ []) in
    let place : 0 + length front ≡ length front = omega arith in
    let last : (0 + length front + 1 == length (front ++ piece p ∷ [])) ≡ true = eq-eqb (0 + length front + 1) (length (front ++ piece p ∷ [])) (omega arith) in
    record {
      some = omega arith;
      few = omega (arith, fits.few);
      pieces = each_push (IsPiece (length (front ++ piece p ∷ []))) 0 front (piece p) (pieces-waiting (length (front ++ piece p ∷ [])) 0 front (omega arith) (joined-waiting p a waits)) (record {
        numbered = fits.numbered ∙ sym place;
        started = fits.started ∙ ap (λ n. n == 0) (sym place);
        ended = end ∙ sym last;
        some = some;
        fits = most;
        full = λ more. absurd (omega (arith, more));
      });
      joined = refl;
    }

-- the message that an end shows is what its pieces carry
pub ended-body : (a : Assemblies) (p : Packet) → (message_of (ended p a) p).body ≡ carried (joined_to p a ++ piece p ∷ [])
ended-body a p = by_start p.start
  where
    by_start : (b : Bool) → cond b p.payload (cond b [] (carried (taken_under p a ++ piece p ∷ []))) ≡ carried (cond b [] (taken_under p a) ++ piece p ∷ [])
    by_start true = sym (append-nil p.payload)
    by_start false = refl

-- the message that such a packet ends is the one that it makes whole
pub whole-made : (own : ℕ) (a : Assemblies) (p : Packet) → EachFrom IsWaitingAt 0 (taken_under p a) → is_ours own p ≡ true → FitsAssembly a p → p.end ≡ true → 0 < length p.payload → length p.payload ≤ 64
    → MakesWhole own a p (message_of (ended p a) p)
whole-made own a p waits ours fits end some most = record {
  ours = ours;
  enveloped = refl;
  cut = subst (λ bytes. IsCut bytes (joined_to p a ++ piece p ∷ [])) (sym (ended-body a p)) (ends-cut a p waits fits end some most);
}

-- and no other is
pub whole-one : (own : ℕ) (a : Assemblies) (p : Packet) (m : Message) → MakesWhole own a p m → m ≡ message_of (ended p a) p
whole-one own a p m h =
    let body : m.body ≡ (message_of (ended p a) p).body = h.cut.joined ∙ sym (ended-body a p) in
    λ i. record { envelope = h.enveloped i; body = body i }

-- what is dropped makes nothing whole
pub not-whole : (own : ℕ) (a : Assemblies) (p : Packet) (m : Message) (cause : DropCause) → Some cause ≡ drop_cause own a p → MakesWhole own a p m → ⊥
not-whole own a p m cause is h = let none : drop_cause own a p ≡ None = whole-passes own a p m h in let bad : Some cause ≡ None = is ∙ none in cc

-- nor does what is no end
pub waits-on : (own : ℕ) (a : Assemblies) (p : Packet) (m : Message) → p.end ≡ false → MakesWhole own a p m → ⊥
waits-on own a p m more h = let bad : true ≡ false = sym (whole-fits own a p m h).1 ∙ more in cc

-- the message that an end shows is the one that it makes whole
pub whole-shown : (own : ℕ) (a b : Assemblies) (p : Packet) → EachFrom IsWaitingAt 0 (taken_under p a) → drop_cause own a p ≡ None → p.end ≡ true → 0 < length p.payload → length p.payload ≤ 64 → b ≡ ended p a
    → (m : Message) → ((taken.Whole ≡ taken.Whole) × (m ≡ message_of b p) → MakesWhole own a p m) × (MakesWhole own a p m → (taken.Whole ≡ taken.Whole) × (m ≡ message_of b p))
whole-shown own a b p waits none end some most is m =
    let may : (is_ours own p ≡ true) × FitsAssembly a p = passes own a p none in
    let shown : message_of b p ≡ message_of (ended p a) p = ap (λ c. message_of c p) is in
    let made : MakesWhole own a p (message_of b p) = subst (MakesWhole own a p) (sym shown) (whole-made own a p waits may.0 may.1 end some most) in
    (λ e. subst (MakesWhole own a p) (sym e.1) made, λ w. (refl, whole-one own a p m w ∙ sym shown))

pub shown-some : (a b : Assemblies) (p : Packet) → 0 < length p.payload → b ≡ ended p a → 0 < length (message_of b p).body
shown-some a b p some is =
    let body : length (message_of b p).body ≡ length (carried (joined_to p a ++ piece p ∷ [])) = ap (λ c. length (message_of c p).body) is ∙ ap length (ended-body a p) in
    let parts : length (carried (joined_to p a ++ piece p ∷ [])) ≡ length (carried (joined_to p a)) + length (carried (piece p ∷ [])) =
    ap length (flat_map-append (λ (q : Piece). q.payload) (joined_to p a) (piece p ∷ [])) ∙ length-append (carried (joined_to p a)) (carried (piece p ∷ [])) in
    omega (arith, body, parts, ap length (append-nil p.payload))
