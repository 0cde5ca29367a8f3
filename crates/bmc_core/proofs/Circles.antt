-- The bits of the next half of a circle.
use Rattle.std.proofs.Common.{◌≡◌, ℕ, suc, zero, ◌+◌, ◌<◌, ◌≤◌, Bool, true, ◌&&◌, eqb, inl, inr, ◌⊎◌, refl, sym, ◌∙◌, ap, subst, arith}
use Rattle.std.specs.Int.{bit_at, rotate_left, w32, w64}
use Rattle.std.proofs.lemmas.Bool.{and_parts, or_cases, eqb-true, cases_lt}
use Rattle.bmc_core.specs.Circle.{is_circle, next_bit}

-- a test holds of each number below another
abbrev all_below : ℕ → (ℕ → Bool) → Bool
all_below zero test = true
all_below (suc n) test = test n && all_below n test

below : (n : ℕ) (test : ℕ → Bool) → all_below n test ≡ true → (k : ℕ) → k < n → test k ≡ true
below zero test all k lt = absurd (omega arith)
below (suc n) test all k lt =
    elim (cases_lt k n) [
      | inl less ↦ below n test (and_parts _ _ all).1 k less
      | inr more ↦ let here : n ≡ k = omega arith in subst (λ (m : ℕ). test m ≡ true) here (and_parts _ _ all).0
    ]

abbrev word_64 : ℕ → ℕ
word_64 low = rotate_left w64 4294967295 (low + 1)

abbrev word_32 : ℕ → ℕ
word_32 low = rotate_left w32 65535 (low + 1)

pub next_64 : (low n : ℕ) → low < 64 → n < 64 → bit_at (word_64 low) n ≡ next_bit 64 low n
next_64 low n low_on on =
    eqb-true _ _ (below 64 (λ m. eqb (bit_at (word_64 low) m) (next_bit 64 low m)) (below 64 (λ l. all_below 64 (λ m. eqb (bit_at (word_64 l) m) (next_bit 64 l m))) refl low low_on) n on)

pub next_32 : (low n : ℕ) → low < 32 → n < 32 → bit_at (word_32 low) n ≡ next_bit 32 low n
next_32 low n low_on on =
    eqb-true _ _ (below 32 (λ m. eqb (bit_at (word_32 low) m) (next_bit 32 low m)) (below 32 (λ l. all_below 32 (λ m. eqb (bit_at (word_32 l) m) (next_bit 32 l m))) refl low low_on) n on)

-- there are no others
pub circles : (numbers : ℕ) → is_circle numbers ≡ true → (numbers ≡ 64) ⊎ (numbers ≡ 32)
circles numbers is = elim (or_cases (eqb numbers 64) (eqb numbers 32) is) [ inl e ↦ inl (eqb-true numbers 64 e) | inr e ↦ inr (eqb-true numbers 32 e) ]

pub at_most_64 : (numbers : ℕ) → is_circle numbers ≡ true → numbers ≤ 64
at_most_64 numbers is = elim (circles numbers is) [ inl e ↦ omega arith | inr e ↦ omega arith ]

pub turned_64 : (numbers low n word places : ℕ) → numbers ≡ 64 → word ≡ rotate_left w64 4294967295 (places + 1) → places ≡ low → low < numbers → n < numbers → bit_at word n ≡ next_bit numbers low n
turned_64 numbers low n word places size is same low_on on =
    ap (λ (w : ℕ). bit_at w n) is
    ∙ ap (λ (p : ℕ). bit_at (word_64 p) n) same
    ∙ next_64 low n (omega arith) (omega arith)
    ∙ ap (λ (m : ℕ). next_bit m low n) (sym size)

pub turned_32 : (numbers low n word places : ℕ) → numbers ≡ 32 → word ≡ rotate_left w32 65535 (places + 1) → places ≡ low → low < numbers → n < numbers → bit_at word n ≡ next_bit numbers low n
turned_32 numbers low n word places size is same low_on on =
    ap (λ (w : ℕ). bit_at w n) is
    ∙ ap (λ (p : ℕ). bit_at (word_32 p) n) same
    ∙ next_32 low n (omega arith) (omega arith)
    ∙ ap (λ (m : ℕ). next_bit m low n) (sym size)
