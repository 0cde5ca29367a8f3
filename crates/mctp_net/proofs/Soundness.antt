-- An assembler stays sound.
use Rattle.std.proofs.Common.{◌≡◌, ℕ, suc, ◌+◌, ◌<◌, ◌≤◌, Bool, true, false, ◌==◌, cond, List, [], ◌∷◌, ◌++◌, length, Option, Some, None, refl, sym, ◌∙◌, ap, subst, arith, length-append}
use Rattle.std.proofs.lemmas.Bool.Decides.{nat_tests}
use Rattle.mctp_net.specs.declared.packet.Name.{Name}
use Rattle.mctp_net.specs.declared.packet.Packet.{Packet}
use Rattle.mctp_net.specs.declared.taken.DropCause.{DropCause}
use Rattle.mctp_net.specs.declared.taken.DropCause.TheVariants.{NotOurs, NoStart, TooLong, OutOfSequence, UnitSize, NoSlot}
use Rattle.mctp_net.specs.Grammar.{bit}
use Rattle.mctp_net.specs.Cut.{Piece, piece, EachFrom}
use Rattle.mctp_net.specs.Assembly.{Assemblies, name_of, is_name, is_open, taken_under, joined_to, open_beside, drop_cause, with_under, closed, ended, kept_with, after_where, after}
use Rattle.mctp_net.specs.Sound.{IsWaitingAt, AreSoundAssemblies, FitsAssembly}
use Rattle.mctp_net.proofs.Causes.{passes, joined-more}

-- one more piece at the end
pub each_push : (P : ℕ → Piece → Type 0) (from : ℕ) (ps : List Piece) (p : Piece) → EachFrom P from ps → P (from + length ps) p → EachFrom P from (ps ++ p ∷ [])
each_push P from [] p h k = (let e : from + 0 ≡ from = omega arith in subst (λ n. P n p) e k, tt)
each_push P from (q ∷ qs) p h k = (h.0, each_push P (from + 1) qs p h.1 (let e : from + suc (length qs) ≡ from + 1 + length qs = omega arith in subst (λ n. P n p) e k))

-- other pieces under one name
sound-with : (n : Name) (ps : List Piece) (a : Assemblies) → AreSoundAssemblies a → EachFrom IsWaitingAt 0 ps → length ps ≤ 4 → open_beside n a + bit (is_open ps) ≤ 8 → AreSoundAssemblies (with_under n ps a)
sound-with n ps a h waits few slots = record {
  fronts = λ m. at (λ qs. EachFrom IsWaitingAt 0 qs) (a.under m) waits (h.fronts m) (is_name m n);
  few = λ m. at (λ qs. length qs ≤ 4) (a.under m) few (h.few m) (is_name m n);
  slots = slots;
}
  where
    at : (P : List Piece → Type 0) (qs : List Piece) → P ps → P qs → (b : Bool) → P (cond b ps qs)
    at P qs x y true = x
    at P qs x y false = y

sound-closed : (p : Packet) (a : Assemblies) → AreSoundAssemblies a → AreSoundAssemblies (closed p a)
sound-closed p a h = sound-with (name_of p.envelope) [] a h tt (omega arith) (let none : bit (is_open []) ≡ 0 = refl in omega (arith, h.slots))

-- a packet that fits waits at the place behind those to which it's joined
fits-waits : (p : Packet) (a : Assemblies) → FitsAssembly a p → p.end ≡ false → IsWaitingAt (length (joined_to p a)) (piece p)
fits-waits p a fits more = record { numbered = fits.numbered; started = fits.started; ended = more; full = fits.full more }

-- the pieces to which a packet is joined wait
pub joined-waiting : (p : Packet) (a : Assemblies) → EachFrom IsWaitingAt 0 (taken_under p a) → EachFrom IsWaitingAt 0 (joined_to p a)
joined-waiting p a h = by_start p.start
  where
    by_start : (b : Bool) → EachFrom IsWaitingAt 0 (cond b [] (taken_under p a))
    by_start true = tt
    by_start false = h

-- with a piece at the end something waits
open-push : (ps : List Piece) (p : Piece) → bit (is_open (ps ++ p ∷ [])) ≡ 1
open-push ps p = let some : is_open (ps ++ p ∷ []) ≡ true = grind (arith, nat_tests, length-append ps (p ∷ [])) in ap bit some

sound-kept : (p : Packet) (a : Assemblies) → AreSoundAssemblies a → FitsAssembly a p → p.end ≡ false → AreSoundAssemblies (kept_with p a)
sound-kept p a h fits more =
    sound-with (name_of p.envelope) (joined_to p a ++ piece p ∷ []) a h
    (each_push IsWaitingAt 0 (joined_to p a) (piece p) (joined-waiting p a (h.fronts (name_of p.envelope))) (let e : length (joined_to p a) ≡ 0 + length (joined_to p a) = omega arith in subst (λ n. IsWaitingAt n (piece p)) e (fits-waits p a fits more)))
    (omega (arith, fits.few, length-append (joined_to p a) (piece p ∷ [])))
    (let one : bit (is_open (joined_to p a ++ piece p ∷ [])) ≡ 1 = open-push (joined_to p a) (piece p) in let free = beside p.start refl in omega (arith, free))
  where
    beside : (b : Bool) → p.start ≡ b → open_beside (name_of p.envelope) a < 8
    beside true e = fits.slots e more
    beside false e =
        let joined : length (joined_to p a) ≡ length (taken_under p a) = ap length (joined-more p a e) in
        let some : (length (joined_to p a) == 0) ≡ false = sym fits.started ∙ e in
        let opened : is_open (taken_under p a) ≡ true = grind (arith, nat_tests) in
        let one : bit (is_open (taken_under p a)) ≡ 1 = ap bit opened in
        omega (arith, h.slots)

-- what is kept after a packet is sound
pub sound-after : (own : ℕ) (a : Assemblies) (p : Packet) → AreSoundAssemblies a → AreSoundAssemblies (after own a p)
sound-after own a p h = by_cause (drop_cause own a p) refl
  where
    unmade_too : AreSoundAssemblies (after_where (Some NotOurs) p a)
    unmade_too = record { fronts = h.fronts; few = h.few; slots = h.slots }

    ended_too : AreSoundAssemblies (ended p a)
    ended_too = let k : AreSoundAssemblies (closed p a) = sound-closed p a h in record { fronts = k.fronts; few = k.few; slots = k.slots }

    by_end : (b : Bool) → p.end ≡ b → drop_cause own a p ≡ None → AreSoundAssemblies (cond b (ended p a) (kept_with p a))
    by_end true e none = ended_too
    by_end false e none = sound-kept p a h (passes own a p none).1 e

    by_cause : (cause : Option DropCause) → drop_cause own a p ≡ cause → AreSoundAssemblies (after_where cause p a)
    by_cause (Some NotOurs) e = unmade_too
    by_cause (Some NoStart) e = unmade_too
    by_cause (Some TooLong) e = sound-closed p a h
    by_cause (Some OutOfSequence) e = sound-closed p a h
    by_cause (Some UnitSize) e = sound-closed p a h
    by_cause (Some NoSlot) e = sound-closed p a h
    by_cause None e = by_end p.end refl e
