-- Tests beside the facts that they stand for.
use Rattle.std.proofs.Common.{◌≡◌, ℕ, List, length, Bool, true, false, ◌&&◌, ◌↔◌, Option, Some, None, is_some, IsSome, refl, sym}
use Rattle.std.proofs.lemmas.Bool.{and_parts}
use Rattle.std.specs.Option.{IfSome}
use Rattle.record_base.specs.declared.threshold_masks.ThresholdMasks.{ThresholdMasks}
use Rattle.record_base.specs.Sensor.Thresholds.{IsThresholds, is_clear, is_in_order}
use Rattle.record_base.specs.ThresholdLaws.{tests_pass, value_is_clear, true_in_order}
use Rattle.text_fields.specs.Ranges.{are_thresholds}

-- two tests that hold together
pub same_test : (a b : Bool) → (a ≡ true → b ≡ true) → (b ≡ true → a ≡ true) → a ≡ b
same_test true b f g = sym (f refl)
same_test false true f g = g refl
same_test false false f g = refl

pub both_true : (a b : Bool) → a ≡ true → b ≡ true → (a && b) ≡ true
both_true true true p q = refl
both_true true false p q = q
both_true false b p q = p

same_words : (masks : ThresholdMasks) (values : List ℕ) → are_thresholds masks.readable masks.settable values ≡ (is_clear masks values && is_in_order masks values)
unfolding is_clear is_in_order
same_words masks values = refl

-- the test that a sensor of these masks can have the thresholds
pub tests_thresholds : {A : Type 0} (made : Option A) (masks : ThresholdMasks) (values : List ℕ) → length values ≡ 6 → IsSome made ↔ IsThresholds masks values
    → is_some made ≡ are_thresholds masks.readable masks.settable values
tests_thresholds made masks values six holds =
    same_test (is_some made) (are_thresholds masks.readable masks.settable values)
    (λ some.
    let valid = holds.0 some in
    rw (same_words masks values) (both_true (is_clear masks values) (is_in_order masks values) (value_is_clear masks values valid) (true_in_order masks values valid.in_order)))
    (λ passed.
    let (clear, ordered) = and_parts (is_clear masks values) (is_in_order masks values) (rw (same_words masks values) at passed) in
    holds.1 (tests_pass masks values six clear ordered))

-- what holds of a value that there may be, by what else holds of it
pub if_some : {T : Type 0} {P Q : T → Type 0} → (o : Option T) → ((t : T) → P t → Q t) → IfSome o P → IfSome o Q
if_some (Some t) f holds = f t holds
if_some None f holds = holds
