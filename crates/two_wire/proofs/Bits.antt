-- The bits of numbers.
use Rattle.std.proofs.Common.{◌≡◌, ℕ, zero, suc, ◌+◌, ◌*◌, ◌/◌, ◌%◌, ◌^◌, ◌<◌, Bool, true, false, eqb, List, [], ◌∷◌, length, refl, ap, arith, inl, inr, ◌⊎◌, reverse, sym, ◌∙◌}
use Rattle.std.proofs.lemmas.Bool.{cases_lt}
use Rattle.std.proofs.lemmas.List.{reverse-reverse}
use Rattle.std.proofs.lemmas.Nat.{xor_mod, xor_shr}
use Rattle.std.specs.Int.Bits.{bit_xor}
use Rattle.two_wire.specs.Polynomial.{differ, plus}
use Rattle.two_wire.specs.Bits.{bits, highest_first, number_of}

pub length-bits : (count n : ℕ) → length (bits count n) ≡ count
unfolding bits
length-bits zero n = refl
length-bits (suc count) n = omega (arith, length-bits count (n / 2))

-- the two numbers of one bit
pub bit_of : (n : ℕ) → (n % 2 ≡ 0) ⊎ (n % 2 ≡ 1)
bit_of n = elim (cases_lt (n % 2) 1) as (λ _. (n % 2 ≡ 0) ⊎ (n % 2 ≡ 1)) [ inl low ↦ inl (omega arith) | inr high ↦ inr (omega arith) ]

-- the lowest bit of what differs
lowest-xor : (a b : ℕ) → eqb (bit_xor a b % 2) 1 ≡ differ (eqb (a % 2) 1) (eqb (b % 2) 1)
lowest-xor a b =
    let low : bit_xor a b % 2 ≡ bit_xor (a % 2) (b % 2) = xor_mod a b 1 in
    elim (bit_of a) as (λ _. eqb (bit_xor a b % 2) 1 ≡ differ (eqb (a % 2) 1) (eqb (b % 2) 1)) [
      | inl h ↦ elim (bit_of b) as (λ _. eqb (bit_xor a b % 2) 1 ≡ differ (eqb (a % 2) 1) (eqb (b % 2) 1)) [ inl k ↦ rw (low, h, k) refl | inr k ↦ rw (low, h, k) refl ]
      | inr h ↦ elim (bit_of b) as (λ _. eqb (bit_xor a b % 2) 1 ≡ differ (eqb (a % 2) 1) (eqb (b % 2) 1)) [ inl k ↦ rw (low, h, k) refl | inr k ↦ rw (low, h, k) refl ]
    ]

-- the bits of what differs are the sum of the bits
pub bits-xor : (count a b : ℕ) → bits count (bit_xor a b) ≡ plus (bits count a) (bits count b)
unfolding bits plus
bits-xor zero a b = refl
bits-xor (suc count) a b =
    let half : bit_xor a b / 2 ≡ bit_xor (a / 2) (b / 2) = xor_shr a b 1 in
    rw (lowest-xor a b, half, bits-xor count (a / 2) (b / 2)) refl

-- a power of two is twice the one before
pub power : (count : ℕ) → 2 ^ suc count ≡ 2 * 2 ^ count
power count = omega arith

-- a number is what its bits are
pub same_bits : (count a b : ℕ) → a < 2 ^ count → b < 2 ^ count → bits count a ≡ bits count b → a ≡ b
unfolding bits
same_bits zero a b small less e = omega arith
same_bits (suc count) a b small less e =
    let lowest : eqb (a % 2) 1 ≡ eqb (b % 2) 1 = cc in
    let others : bits count (a / 2) ≡ bits count (b / 2) = cc in
    let half : a / 2 ≡ b / 2 = same_bits count (a / 2) (b / 2) (omega (arith, power count)) (omega (arith, power count)) others in
    elim (bit_of a) as (λ _. a ≡ b) [
      | inl h ↦ elim (bit_of b) as (λ _. a ≡ b) [ inl k ↦ omega (arith, half) | inr k ↦ (let clash = rw (h, k) at lowest in cc) ]
      | inr h ↦ elim (bit_of b) as (λ _. a ≡ b) [ inl k ↦ (let clash = rw (h, k) at lowest in cc) | inr k ↦ omega (arith, half) ]
    ]

-- and by the highest bit first
pub same_from_highest : (count a b : ℕ) → a < 2 ^ count → b < 2 ^ count → highest_first count a ≡ highest_first count b → a ≡ b
same_from_highest count a b small less e =
    same_bits count a b small less (sym (reverse-reverse (bits count a)) ∙ ap reverse e ∙ reverse-reverse (bits count b))

pub number_of-lt : (xs : List Bool) → number_of xs < 2 ^ length xs
unfolding number_of
number_of-lt [] = omega arith
number_of-lt (true ∷ others) = omega (arith, number_of-lt others, power (length others))
number_of-lt (false ∷ others) = omega (arith, number_of-lt others, power (length others))

pub bits-number_of : (xs : List Bool) → bits (length xs) (number_of xs) ≡ xs
unfolding number_of bits
bits-number_of [] = refl
bits-number_of (true ∷ others) =
    let low : (1 + 2 * number_of others) % 2 ≡ 1 = omega arith in
    let half : (1 + 2 * number_of others) / 2 ≡ number_of others = omega arith in
    rw (low, half, bits-number_of others) refl
bits-number_of (false ∷ others) =
    let low : 2 * number_of others % 2 ≡ 0 = omega arith in
    let half : 2 * number_of others / 2 ≡ number_of others = omega arith in
    rw (low, half, bits-number_of others) refl
