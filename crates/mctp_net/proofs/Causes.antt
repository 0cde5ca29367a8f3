-- What it means that there is no cause to drop a packet.
use Rattle.std.proofs.Common.{◌≡◌, ℕ, ◌<◌, ◌==◌, ◌&&◌, Bool, true, false, not, nat_le, cond, length, refl, sym, ◌∙◌, ap, arith, Some, None}
use Rattle.std.proofs.lemmas.Bool.{eqb-true, eq-eqb}
use Rattle.std.proofs.lemmas.Bool.Decides.{nat_tests}
use Rattle.mctp_net.specs.declared.packet.Packet.{Packet}
use Rattle.mctp_net.specs.declared.taken.DropCause.TheVariants.{NotOurs, NoStart, TooLong, OutOfSequence, UnitSize, NoSlot}
use Rattle.mctp_net.specs.Assembly.{Assemblies, name_of, taken_under, joined_to, open_beside, is_ours, fails, drop_cause}
use Rattle.mctp_net.specs.Sound.{FitsAssembly}

-- no test holds where the first that holds is none
none_of : (a b c d e f : Bool)
    → cond a (Some NotOurs) (cond b (Some NoStart) (cond c (Some TooLong) (cond d (Some OutOfSequence) (cond e (Some UnitSize) (cond f (Some NoSlot) None))))) ≡ None
    → (a ≡ false) × (b ≡ false) × (c ≡ false) × (d ≡ false) × (e ≡ false) × (f ≡ false)
none_of true b c d e f h = absurd cc
none_of false true c d e f h = absurd cc
none_of false false true d e f h = absurd cc
none_of false false false true e f h = absurd cc
none_of false false false false true f h = absurd cc
none_of false false false false false true h = absurd cc
none_of false false false false false false h = (refl, refl, refl, refl, refl, refl)

-- a test whose negation fails holds
holds_if : (b : Bool) → not b ≡ false → b ≡ true
holds_if true h = refl
holds_if false h = absurd cc

-- a test that fails besides one that holds
fails_beside : (a b : Bool) → a && b ≡ false → a ≡ true → b ≡ false
fails_beside true b h k = h
fails_beside false b h k = absurd cc

-- where the packet is a start, nothing is joined to it; where it isn't, what was taken under its name is
pub joined-start : (p : Packet) (a : Assemblies) → p.start ≡ true → length (joined_to p a) ≡ 0
joined-start p a e = rw e refl

pub joined-more : (p : Packet) (a : Assemblies) → p.start ≡ false → joined_to p a ≡ taken_under p a
joined-more p a e = rw e refl

-- a packet that isn't dropped is the endpoint's and fits
pub passes : (own : ℕ) (a : Assemblies) (p : Packet) → drop_cause own a p ≡ None → (is_ours own p ≡ true) × FitsAssembly a p
passes own a p h =
    let no : (fails own a p NotOurs ≡ false) × (fails own a p NoStart ≡ false) × (fails own a p TooLong ≡ false) × (fails own a p OutOfSequence ≡ false) × (fails own a p UnitSize ≡ false) × (fails own a p NoSlot ≡ false) =
    none_of (fails own a p NotOurs) (fails own a p NoStart) (fails own a p TooLong) (fails own a p OutOfSequence) (fails own a p UnitSize) (fails own a p NoSlot) h in (
      holds_if (is_ours own p) no.0,
      record {
        few = short (length (joined_to p a)) no.2;
        numbered = eqb-true p.sequence (length (joined_to p a)) (holds_if (p.sequence == length (joined_to p a)) no.3);
        started = begins p.start refl no.1;
        full = λ more. eqb-true (length p.payload) 64 (holds_if (length p.payload == 64) (fails_beside (not p.end) (not (length p.payload == 64)) no.4 (ap not more)));
        slots = λ start more. free (open_beside (name_of p.envelope) a) (fails_beside (p.start && not p.end) (nat_le 8 (open_beside (name_of p.envelope) a)) no.5 (rw (start, more) refl));
      },
    )
  where
    short : (n : ℕ) → nat_le 4 n ≡ false → n < 4
    short n h = grind (arith, nat_tests)

    free : (n : ℕ) → nat_le 8 n ≡ false → n < 8
    free n h = grind (arith, nat_tests)

    begins : (b : Bool) → p.start ≡ b → fails own a p NoStart ≡ false → p.start ≡ (length (joined_to p a) == 0)
    begins true e h = e ∙ sym (ap (λ n. n == 0) (joined-start p a e))
    begins false e h =
        e ∙ sym (fails_beside (not p.start) (length (taken_under p a) == 0) h (ap not e)) ∙ sym (ap (λ ps. length ps == 0) (joined-more p a e))

-- tests that fail
none_for : (a b c d e f : Bool) → a ≡ false → b ≡ false → c ≡ false → d ≡ false → e ≡ false → f ≡ false
    → cond a (Some NotOurs) (cond b (Some NoStart) (cond c (Some TooLong) (cond d (Some OutOfSequence) (cond e (Some UnitSize) (cond f (Some NoSlot) None))))) ≡ None
none_for a b c d e f h i j k l m = rw (h, i, j, k, l, m) refl

-- a packet that is the endpoint's and fits isn't dropped
pub passes_back : (own : ℕ) (a : Assemblies) (p : Packet) → is_ours own p ≡ true → FitsAssembly a p → drop_cause own a p ≡ None
passes_back own a p ours fits =
    none_for (fails own a p NotOurs) (fails own a p NoStart) (fails own a p TooLong) (fails own a p OutOfSequence) (fails own a p UnitSize) (fails own a p NoSlot)
    (ap not ours) (begins p.start refl) (let few : length (joined_to p a) < 4 = fits.few in grind (arith, nat_tests)) (ap not (eq-eqb p.sequence (length (joined_to p a)) fits.numbered)) (sized p.end refl) (free p.start p.end refl refl)
  where
    begins : (b : Bool) → p.start ≡ b → fails own a p NoStart ≡ false
    begins true e = rw e refl
    begins false e =
        let none : (length (taken_under p a) == 0) ≡ false = sym (ap (λ ps. length ps == 0) (joined-more p a e)) ∙ sym fits.started ∙ e in
        rw (e, none) refl

    sized : (b : Bool) → p.end ≡ b → fails own a p UnitSize ≡ false
    sized true e = rw e refl
    sized false e = rw (e, eq-eqb (length p.payload) 64 (fits.full e)) refl

    free : (b c : Bool) → p.start ≡ b → p.end ≡ c → fails own a p NoSlot ≡ false
    free true true d e = rw (d, e) refl
    free true false d e = let room : open_beside (name_of p.envelope) a < 8 = fits.slots d e in let no : nat_le 8 (open_beside (name_of p.envelope) a) ≡ false = grind (arith, nat_tests) in rw (d, e, no) refl
    free false c d e = rw d refl
