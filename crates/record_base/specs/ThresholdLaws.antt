-- The tests of thresholds are right.
use Rattle.std.proofs.Common.{◌≡◌, ℕ, ◌<◌, ◌≤◌, List, length, slice_index, Bool, true, false, nat_le, ◌==◌, ◌||◌, IsFalse, refl, arith}
use Rattle.std.proofs.lemmas.Bool.Decides.{nat_tests}
use Rattle.record_base.specs.Masks.{all_below}
use Rattle.record_base.specs.MaskLaws.{all_below-at, at-all_below, implied, implies}
use Rattle.record_base.specs.Sensor.Thresholds.{is_there, IsInOrder, are_in_order, is_in_order, is_clear, IsThresholds}
use Rattle.record_base.specs.declared.threshold_masks.ThresholdMasks.{ThresholdMasks}

le_from : (a b : ℕ) → nat_le a b ≡ true → a ≤ b
le_from a b h = grind (arith, nat_tests)

to_le : (a b : ℕ) → a ≤ b → nat_le a b ≡ true
to_le a b h = grind (arith, nat_tests)

pub in_order_true : (masks : ThresholdMasks) (value : List ℕ) → is_in_order masks value ≡ true → IsInOrder masks value
unfolding is_in_order
in_order_true masks value h =
    λ low high lt below low_there high_there.
    le_from _ _ (implied _ _ (implied _ _ (all_below-at (are_in_order masks value high) high (all_below-at (λ k. all_below (are_in_order masks value k) k) 6 h high below) low lt) low_there) high_there)

pub true_in_order : (masks : ThresholdMasks) (value : List ℕ) → IsInOrder masks value → is_in_order masks value ≡ true
unfolding is_in_order
true_in_order masks value h =
    at-all_below (λ k. all_below (are_in_order masks value k) k) 6 (λ high below. at-all_below (are_in_order masks value high) high (λ low lt. implies _ _ (λ low_there. implies _ _ (λ high_there. to_le _ _ (h low high lt below low_there high_there)))))

absent_at : (there : Bool) (n : ℕ) → (there || (n == 0)) ≡ true → IsFalse there → n ≡ 0
absent_at true n h gone = cc
absent_at false n h gone = grind (arith, nat_tests)

clear_at : (there : Bool) (n : ℕ) → (IsFalse there → n ≡ 0) → (there || (n == 0)) ≡ true
clear_at true n h = refl
clear_at false n h = let zero_is : n ≡ 0 = h refl in grind (arith, nat_tests)

-- where the test holds, each place without a threshold has 0
pub clear_true : (masks : ThresholdMasks) (value : List ℕ) → is_clear masks value ≡ true → (place : ℕ) → place < 6 → IsFalse (is_there masks place) → slice_index value place ≡ 0
unfolding is_clear
clear_true masks value clear place lt = absent_at _ _ (all_below-at (λ p. is_there masks p || (slice_index value p == 0)) 6 clear place lt)

pub true_clear : (masks : ThresholdMasks) (value : List ℕ) → ((place : ℕ) → place < 6 → (is_there masks place || (slice_index value place == 0)) ≡ true) → is_clear masks value ≡ true
unfolding is_clear
true_clear masks value h = at-all_below (λ p. is_there masks p || (slice_index value p == 0)) 6 h

-- six bytes that pass both tests are a value
pub tests_pass : (masks : ThresholdMasks) (value : List ℕ) → length value ≡ 6 → is_clear masks value ≡ true → is_in_order masks value ≡ true → IsThresholds masks value
tests_pass masks value long clear order = record {
  six = long;
  absent = clear_true masks value clear;
  in_order = in_order_true masks value order;
}

-- a value passes both tests
pub value_is_clear : (masks : ThresholdMasks) (value : List ℕ) → IsThresholds masks value → is_clear masks value ≡ true
value_is_clear masks value v = true_clear masks value (λ place lt. clear_at _ _ (v.absent place lt))
