-- Stagings of several requesters.
use Rattle.std.proofs.Common.{◌≡◌, ◌≢◌, ℕ, List, [], ◌∷◌, Some, None, refl, arith}
use Rattle.std.proofs.lemmas.Bool.Decides.{nat_tests}
use Rattle.record_kinds.specs.Stagings.{StagedParts, without, staged_by, with_staged}

-- a staging of this requester's stands behind those of others
pub own_last : (stagings : StagedParts) (from : ℕ) (entry : List ℕ) → staged_by from (with_staged from entry stagings) ≡ Some entry
own_last [] from entry = grind (arith, nat_tests)
own_last (first ∷ rest) from entry = grind (arith, nat_tests, own_last rest from entry)

pub none_left : (stagings : StagedParts) (from : ℕ) → staged_by from (without from stagings) ≡ None
none_left [] from = refl
none_left (first ∷ rest) from = grind (arith, nat_tests, none_left rest from)

pub others_left : (stagings : StagedParts) (from other : ℕ) → other ≢ from → staged_by other (without from stagings) ≡ staged_by other stagings
others_left [] from other apart = refl
others_left (first ∷ rest) from other apart = grind (arith, nat_tests, others_left rest from other apart)

pub others_stay : (stagings : StagedParts) (from other : ℕ) (entry : List ℕ) → other ≢ from → staged_by other (with_staged from entry stagings) ≡ staged_by other stagings
others_stay [] from other entry apart = grind (arith, nat_tests)
others_stay (first ∷ rest) from other entry apart = grind (arith, nat_tests, others_stay rest from other entry apart)
