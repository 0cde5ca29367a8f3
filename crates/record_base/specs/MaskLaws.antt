-- The tests of masks are right.
use Rattle.std.proofs.Common.{◌≡◌, ℕ, zero, suc, ◌<◌, Bool, true, false, ◌&&◌, ◌||◌, not, refl, sym, arith, below_more}
use Rattle.record_base.specs.Masks.{has, IsWithin, all_below, is_within}

-- two tests are equal where each implies the other
pub same_test : (a b : Bool) → (a ≡ true → b ≡ true) → (b ≡ true → a ≡ true) → a ≡ b
same_test true b p q = sym (p refl)
same_test false true p q = q refl
same_test false false p q = refl

-- a test that can't hold is false
pub is_false : (b : Bool) → ¬ (b ≡ true) → false ≡ b
is_false true no_way = absurd (no_way refl)
is_false false no_way = refl

-- two tests that hold together hold each
pub both_true : (a b : Bool) → (a && b) ≡ true → (a ≡ true) × (b ≡ true)
both_true true true h = (refl, refl)
both_true true false h = cc
both_true false b h = cc

-- two tests that hold each hold together
pub both : (a b : Bool) → a ≡ true → b ≡ true → (a && b) ≡ true
both true true p q = refl
both true false p q = q
both false b p q = p

-- a test that holds at each number below a bound holds at one such number
pub all_below-at : (p : ℕ → Bool) (n : ℕ) → all_below p n ≡ true → (k : ℕ) → k < n → p k ≡ true
all_below-at p zero h k lt = absurd (omega arith)
all_below-at p (suc n) h k lt = below_more (λ j. p j ≡ true) n (all_below-at p n (both_true _ _ h).1) (both_true _ _ h).0 k (omega arith)

-- a test that holds at one number after another holds at each number below the bound
pub at-all_below : (p : ℕ → Bool) (n : ℕ) → ((k : ℕ) → k < n → p k ≡ true) → all_below p n ≡ true
at-all_below p zero h = refl
at-all_below p (suc n) h = both _ _ (h n (omega arith)) (at-all_below p n (λ k lt. h k (omega arith)))

-- the test of an implication holds exactly where the implication does
pub implied : (a b : Bool) → (not a || b) ≡ true → a ≡ true → b ≡ true
implied true b h t = h
implied false b h t = cc

pub implies : (a b : Bool) → (a ≡ true → b ≡ true) → (not a || b) ≡ true
implies true b h = h refl
implies false b h = refl

-- the test of a mask within a set is right
pub within_true : (mask set : ℕ) → is_within mask set ≡ true → IsWithin mask set
unfolding is_within
within_true mask set h = λ place lt there. implied _ _ (all_below-at (λ p. not (has mask p) || has set p) 8 h place lt) there

pub true_within : (mask set : ℕ) → IsWithin mask set → is_within mask set ≡ true
unfolding is_within
true_within mask set h = at-all_below (λ p. not (has mask p) || has set p) 8 (λ k lt. implies _ _ (h k lt))
