-- What a window has under each number.
use Rattle.std.proofs.Common.{◌≡◌, ℕ, suc, zero, ◌-◌, ◌*◌, ◌%◌, ◌^◌, ◌<◌, ◌≤◌, min, Bool, true, false, eqb, ◌/◌, ◌≢◌, List, [], ◌∷◌, length, get_or, Option, Some, None, cond, refl, sym, ◌∙◌, ap, subst, inl, inr, arith, bit_and, bit_or}
use Rattle.std.specs.Prelude.{slice_get}
use Rattle.std.specs.Int.{bit_at, w64}
use Rattle.std.specs.Str.{bytes_eq}
use Rattle.std.proofs.Math.ListN.{set}
use Rattle.std.proofs.lemmas.Bool.{eq-eqb, ne_eqb, cases_eq, cond-true, cond-false}
use Rattle.std.proofs.lemmas.Nat.Bits.{bit_at_set_same, bit_at_set_other, bit_at_and, bit_at_not, bit_at-lt, shr_and_one}
use Rattle.std.proofs.lemmas.Option.{slice_get_read}
use Rattle.model_bus.specs.Numbering.{is_next}
use Rattle.bmc_core.specs.Circle.{next_bit}
use Rattle.bmc_core.specs.Window.{WindowEntry, Room, pair_at, reply_to, KeepsAtNumber}

pub get_set : {X : Type 0} (xs : List X) (n : ℕ) (x : X) → n < length xs → slice_get (set xs n x) n ≡ Some x
get_set [] n x within = absurd (omega arith)
get_set (y ∷ xs) zero x within = refl
get_set (y ∷ xs) (suc n) x within = get_set xs n x (omega arith)

pub get_set_other : {X : Type 0} (xs : List X) (n m : ℕ) (x : X) → (m ≡ n → ⊥) → slice_get (set xs n x) m ≡ slice_get xs m
get_set_other [] n m x other = refl
get_set_other (y ∷ xs) zero zero x other = absurd (other refl)
get_set_other (y ∷ xs) zero (suc m) x other = refl
get_set_other (y ∷ xs) (suc n) zero x other = refl
get_set_other (y ∷ xs) (suc n) (suc m) x other = get_set_other xs n m x (λ e. other (ap suc e))

-- the pair that is looked at tells
pub found : (room : Room) (n : ℕ) (bytes : List ℕ) (p : WindowEntry) (b : Bool) → bit_at room.used n ≡ 1 → slice_get room.places n ≡ Some p → b ≡ bytes_eq bytes p.request
    → reply_to bytes (pair_at room n) ≡ cond b (Some p.reply) None
found room n bytes p b bit at is =
    ap (λ (t : Bool). reply_to bytes (cond t (slice_get room.places n) None)) (eq-eqb (bit_at room.used n) 1 bit)
    ∙ ap (reply_to bytes) at ∙ ap (λ (t : Bool). cond t (Some p.reply) None) (sym is)

-- a room with the request in it
abbrev pub with_pair : Room → ℕ → ℕ → WindowEntry → Room
with_pair room f n p =
    record { used = bit_or (bit_and room.used (18446744073709551615 - f)) (1 * 2 ^ n % 18446744073709551616); places = set room.places n p }

-- what is left of a number's bit
least : (old bit : ℕ) (next : Bool) (x : Option WindowEntry) → bit ≡ cond next 1 0 → old < 2 → cond (eqb (min old (1 - bit)) 1) x None ≡ cond next None (cond (eqb old 1) x None)
least old bit true x e small =
    ap (λ (b : ℕ). cond (eqb b 1) x None) (let zero : min old (1 - bit) ≡ 0 = omega arith in zero)
least old bit false x e small =
    ap (λ (b : ℕ). cond (eqb b 1) x None) (let same : min old (1 - bit) ≡ old = omega arith in same)

module _ (room : Room) (f n : ℕ) (p : WindowEntry) where
  here : n < 64 → n < length room.places → pair_at (with_pair room f n p) n ≡ Some p
  here small within =
      ap (λ (b : ℕ). cond (eqb b 1) (slice_get (set room.places n p) n) None) (bit_at_set_same w64 (bit_and room.used (18446744073709551615 - f)) n small)
      ∙ get_set room.places n p within

  there : (m : ℕ) → f < 2 ^ 64 → n < 64 → m < 64 → (m ≡ n → ⊥) → pair_at (with_pair room f n p) m ≡ cond (eqb (min (bit_at room.used m) (1 - bit_at f m)) 1) (slice_get room.places m) None
  there m word small on other =
      ap (λ (b : ℕ). cond (eqb b 1) (slice_get (set room.places n p) m) None)
      (bit_at_set_other w64 (bit_and room.used (18446744073709551615 - f)) n small m other ∙ bit_at_and room.used (18446744073709551615 - f) m ∙ ap (min (bit_at room.used m)) (bit_at_not w64 f m word on))
      ∙ ap (λ (x : Option WindowEntry). cond (eqb (min (bit_at room.used m) (1 - bit_at f m)) 1) x None) (get_set_other room.places n m p other)

  pub kept : (numbers : ℕ) → numbers ≤ 64 → length room.places ≡ numbers → n < numbers → f < 2 ^ 64 → ((m : ℕ) → m < numbers → bit_at f m ≡ next_bit numbers n m)
      → KeepsAtNumber numbers n p room (with_pair room f n p)
  kept numbers small many on word next m m_on =
      elim (cases_eq m n) [
        | inl same ↦
            subst (λ (x : ℕ). pair_at (with_pair room f n p) x ≡ Some p) (sym same) (here (omega arith) (omega arith))
            ∙ sym (cond-true (eqb m n) (Some p) (cond (is_next numbers n m) None (pair_at room m)) (eq-eqb m n same))
        | inr other ↦
            there m word (omega arith) (omega arith) other
            ∙ least (bit_at room.used m) (bit_at f m) (is_next numbers n m) (slice_get room.places m) (next m m_on) (bit_at-lt room.used m)
            ∙ sym (cond-false (eqb m n) (Some p) (cond (is_next numbers n m) None (pair_at room m)) (ne_eqb m n other))
      ]

pub kept_here : (numbers number place bit f : ℕ) (p q : WindowEntry) (room old : Room) → room ≡ old → q ≡ p → place ≡ number → bit ≡ number
    → numbers ≤ 64 → length room.places ≡ numbers → number < numbers → f < 2 ^ 64 → ((m : ℕ) → m < numbers → bit_at f m ≡ next_bit numbers number m)
    → KeepsAtNumber numbers number p old (record { used = bit_or (bit_and room.used (18446744073709551615 - f)) (1 * 2 ^ bit % 18446744073709551616); places = set room.places place q })
kept_here numbers number place bit f p q room old is same at shift small many on word next m m_on =
    let used = bit_and room.used (18446744073709551615 - f) in
    ap (λ (b : ℕ). pair_at (record { used = bit_or used (1 * 2 ^ b % 18446744073709551616); places = set room.places place q }) m) shift
    ∙ ap (λ (i : ℕ). pair_at (record { used = bit_or used (1 * 2 ^ number % 18446744073709551616); places = set room.places i q }) m) at
    ∙ ap (λ (x : WindowEntry). pair_at (with_pair room f number x) m) same
    ∙ kept room f number p numbers small many on word next m m_on
    ∙ ap (λ (r : Room). cond (eqb m number) (Some p) (cond (is_next numbers number m) None (pair_at r m))) is

bit_set : (used n : ℕ) → (bit_and (used / 2 ^ n) 1 ≡ 0 → ⊥) → bit_at used n ≡ 1
bit_set used n not =
    let small = bit_at-lt used n in
    let set : bit_at used n ≢ 0 = λ e. not (shr_and_one used n ∙ e) in
    omega arith

pub found_here : (numbers number shift place : ℕ) (bytes : List ℕ) (p : WindowEntry) (b : Bool) (room old : Room) → room ≡ old → shift ≡ number → place ≡ shift
    → (bit_and (room.used / 2 ^ shift) 1 ≡ 0 → ⊥) → length room.places ≡ numbers → number < numbers → p ≡ get_or room.places place p → b ≡ bytes_eq bytes p.request
    → reply_to bytes (pair_at old number) ≡ cond b (Some p.reply) None
found_here numbers number shift place bytes p b room old is same at bit many on read tells =
    ap (λ (r : Room). reply_to bytes (pair_at r number)) (sym is)
    ∙ ap (λ (n : ℕ). reply_to bytes (pair_at room n)) (sym same)
    ∙ found room shift bytes p b (bit_set room.used shift bit)
    (ap (slice_get room.places) (sym at) ∙ slice_get_read room.places numbers place p (sym many) (omega arith) read) tells
