-- Laws that several kinds of record take.
use Rattle.std.proofs.Common.{◌≡◌, ℕ, ◌%◌, ◌∷◌, [], List, length, slice_index, Bool, true, false, arith}
use Rattle.std.proofs.lemmas.Grind.{same_number_lists, common_steps}

-- a list of so many is its members
pub one : (xs : List ℕ) → length xs ≡ 1 → xs ≡ slice_index xs 0 ∷ []
one xs h = same_number_lists _ _ h (λ k lt. grind (arith, common_steps))

pub two : (xs : List ℕ) → length xs ≡ 2 → xs ≡ slice_index xs 0 ∷ slice_index xs 1 ∷ []
two xs h = same_number_lists _ _ h (λ k lt. grind (arith, common_steps))

pub four : (xs : List ℕ) → length xs ≡ 4 → xs ≡ slice_index xs 0 ∷ slice_index xs 1 ∷ slice_index xs 2 ∷ slice_index xs 3 ∷ []
four xs h = same_number_lists _ _ h (λ k lt. grind (arith, common_steps))

pub true_not_false : (b : Bool) → b ≡ true → b ≡ false → ⊥
true_not_false b t f = cc

-- the low six bits of a number's low six bits are these
pub again : (n : ℕ) → n % 64 % 64 ≡ n % 64
again n = omega arith
