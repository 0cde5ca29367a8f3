-- What is staged.
use Rattle.std.proofs.Common.{◌≡◌, ℕ, ◌<◌, [], ◌∷◌, length, not, Some, refl, arith}
use Rattle.std.specs.Prelude.{find}
use Rattle.std.proofs.lemmas.List.Filters.{length-filter_both}
use Rattle.std.specs.List.{filter}
use Rattle.record_kinds.specs.declared.stagings.Staging.{Staging}
use Rattle.record_kinds.specs.Stagings.{StagedParts, is_by, without}

-- one who is found is among those that the test passes
found : (from : ℕ) (stagings : StagedParts) (staging : Staging) → find (is_by from) stagings ≡ Some staging → 0 < length (filter (is_by from) stagings)
found from [] staging is = absurd cc
found from (first ∷ others) staging is = grind (arith, found from others staging)

-- one who has something staged leaves fewer stagings to others
pub fewer : (from : ℕ) (stagings : StagedParts) (staging : Staging) → find (is_by from) stagings ≡ Some staging → length (without from stagings) < length stagings
fewer from stagings staging is =
    omega (arith, found from stagings staging is, length-filter_both (is_by from) (λ s. not (is_by from s)) (λ s. refl) stagings)
