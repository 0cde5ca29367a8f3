-- The thresholds of a sensor (IPMI 2.0). A value has six bytes, one at each place of a mask: lower
-- non-critical, lower critical, lower non-recoverable, upper non-critical, upper critical, upper non-recoverable.
use Rattle.std.specs.Prelude.{◌≡◌, ℕ, ◌<◌, ◌≤◌, List, [], ◌∷◌, length, slice_index, Bool, ◌||◌, not, nat_le, ◌==◌, IsTrue, IsFalse}
use Rattle.record_base.specs.Masks.{has, all_below}
use Rattle.record_base.specs.declared.threshold_masks.ThresholdMasks.{ThresholdMasks}

-- the sensor has the threshold at this place: it can be read or set
abbrev pub is_there : ThresholdMasks → ℕ → Bool
is_there masks place = has masks.readable place || has masks.settable place

-- the places from the lowest threshold to the highest
abbrev pub place_of : ℕ → ℕ
place_of rank = slice_index (2 ∷ 1 ∷ 0 ∷ 3 ∷ 4 ∷ 5 ∷ []) rank

-- the sensor's thresholds don't decrease from the lowest to the highest
abbrev pub IsInOrder : ThresholdMasks → List ℕ → Type 0
IsInOrder masks value =
    (low high : ℕ) → low < high → high < 6
    → IsTrue (is_there masks (place_of low)) → IsTrue (is_there masks (place_of high))
    → slice_index value (place_of low) ≤ slice_index value (place_of high)

-- a value that the sensor can have: 0 at each place without a threshold
pub record IsThresholds (masks : ThresholdMasks) (value : List ℕ) : Type 0 where
  pub six : length value ≡ 6
  pub absent : (place : ℕ) → place < 6 → IsFalse (is_there masks place) → slice_index value place ≡ 0
  pub in_order : IsInOrder masks value

-- the test that two thresholds are in order
abbrev pub are_in_order : ThresholdMasks → List ℕ → ℕ → ℕ → Bool
are_in_order masks value high low =
    not (is_there masks (place_of low)) || (not (is_there masks (place_of high)) || nat_le (slice_index value (place_of low)) (slice_index value (place_of high)))

-- the test that the thresholds are in order
unfoldable pub is_in_order : ThresholdMasks → List ℕ → Bool
is_in_order masks value = all_below (λ high. all_below (are_in_order masks value high) high) 6

-- the test that each place without a threshold has 0
unfoldable pub is_clear : ThresholdMasks → List ℕ → Bool
is_clear masks value = all_below (λ place. is_there masks place || (slice_index value place == 0)) 6
