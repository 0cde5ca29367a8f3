-- What a step makes of the fields of a state effecter.
use Rattle.std.proofs.Common.{◌≡◌, ℕ, ◌≤◌, ◌-◌, ℤ, pos, negsuc, ◌<ℤ◌, ◌≤ℤ◌, unsigned_abs, nat_le, List, length, true, is_some, refl, ap, arith}
use Rattle.std.proofs.lemmas.Bool.{and_parts}
use Rattle.std.proofs.lemmas.Int.{ints}
use Rattle.std.proofs.lemmas.Bool.Decides.{nat_tests}
use Rattle.std.specs.List.{list_all}
use Rattle.record_base.specs.BoardSizes.{most_state_fields}
use Rattle.toml.specs.Data.{Data}
use Rattle.text_fields.specs.States.{change_at, change_of}
use Rattle.text_fields.specs.Ranges.{is_between, are_changes}

-- an integer is as far from 0 as its absolute value says
pub change_positive : (z : ℤ) → pos 0 ≤ℤ z → change_at (pos (unsigned_abs z)) ≡ change_at z
change_positive (pos n) not_below = refl
change_positive (negsuc n) not_below = absurd (omega (arith, ints))

pub change_negative : (z : ℤ) → z <ℤ pos 0 → change_at (negsuc (unsigned_abs z - 1)) ≡ change_at z
change_negative (pos n) below = absurd (omega (arith, ints))
change_negative (negsuc n) below = ap (λ (m : ℕ). change_at (negsuc m)) (omega arith)

le_from : (m n : ℕ) → nat_le m n ≡ true → m ≤ n
le_from m n h = grind (arith, nat_tests)

-- the changes of one field or more
pub changes_are : (ds : List Data) → are_changes ds ≡ true → (length ds ≤ most_state_fields) × (list_all (λ d. is_some (change_of d)) ds ≡ true)
changes_are ds are =
    let (some, all) = and_parts (is_between 1 most_state_fields (length ds)) (list_all (λ d. is_some (change_of d)) ds) are in
    let (low, high) = and_parts (nat_le 1 (length ds)) (nat_le (length ds) most_state_fields) some in
    (le_from _ most_state_fields high, all)
