-- Bits of longer numbers, and inverted ones.
use Rattle.std.proofs.Common.{◌≡◌, ℕ, zero, suc, ◌+◌, ◌-◌, ◌*◌, ◌/◌, ◌%◌, ◌^◌, ◌<◌, false, not, eqb, ◌∷◌, ◌++◌, map, refl, ap, arith, inl, inr}
use Rattle.two_wire.specs.Polynomial.{zeros}
use Rattle.two_wire.specs.Bits.{bits}
use Rattle.two_wire.proofs.Bits.{bit_of, power}

pub bits-zero : (count : ℕ) → bits count 0 ≡ zeros count
unfolding bits
bits-zero zero = refl
bits-zero (suc count) = ap (λ xs. false ∷ xs) (bits-zero count)

-- a number of so many bits has zeros behind them
pub bits-longer : (count more total n : ℕ) → total ≡ count + more → n < 2 ^ count → bits total n ≡ bits count n ++ zeros more
unfolding bits
bits-longer zero more total n e small =
    let none : n ≡ 0 = omega arith in
    let all : total ≡ more = omega arith in
    rw (none, all) (bits-zero more)
bits-longer (suc count) more zero n e small = absurd (omega arith)
bits-longer (suc count) more (suc total) n e small =
    ap (λ xs. eqb (n % 2) 1 ∷ xs) (bits-longer count more total (n / 2) (omega arith) (omega (arith, power count)))

-- the bits of the number with all bits inverted
pub bits-inverted : (count n : ℕ) → n < 2 ^ count → bits count (2 ^ count - 1 - n) ≡ map not (bits count n)
unfolding bits
bits-inverted zero n small = refl
bits-inverted (suc count) n small =
    let p : ℕ = 2 ^ count in
    let twice : 2 ^ suc count ≡ 2 * p = power count in
    let half : (2 ^ suc count - 1 - n) / 2 ≡ p - 1 - n / 2 = omega (arith, twice) in
    let low : (2 ^ suc count - 1 - n) % 2 ≡ 1 - n % 2 = omega (arith, twice) in
    let others : bits count (p - 1 - n / 2) ≡ map not (bits count (n / 2)) = bits-inverted count (n / 2) (omega (arith, twice)) in
    elim (bit_of n) as (λ _. bits (suc count) (2 ^ suc count - 1 - n) ≡ map not (bits (suc count) n)) [
      | inl h ↦ rw (half, low, h, others) refl
      | inr h ↦ rw (half, low, h, others) refl
    ]
