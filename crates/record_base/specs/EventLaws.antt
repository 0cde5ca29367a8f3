-- The test of sets of events is right, and a value's bytes give its flags and events.
use Rattle.std.proofs.Common.{◌≡◌, ℕ, zero, suc, ◌+◌, ◌-◌, ◌*◌, ◌/◌, ◌%◌, ◌^◌, ◌<◌, min, slice_index, Bool, true, false, ◌||◌, ◌==◌, not, IsTrue, refl, sym, ◌∙◌, ap, subst, arith}
use Rattle.std.specs.Int.{bit_at}
use Rattle.std.proofs.lemmas.Nat.{and_mask}
use Rattle.std.proofs.lemmas.Nat.Bits.{bit_at_and, bit_at_ones, bit_at-lt}
use Rattle.record_base.specs.Masks.{has}
use Rattle.record_base.specs.MaskLaws.{all_below-at, at-all_below, implied, implies}
use Rattle.record_base.specs.declared.event_enable.EventMasks.{EventMasks}
use Rattle.record_base.specs.Sensor.EventEnable.{AreWithin, are_within, flags_byte, makes_messages, is_scanning, event_value, IsEventValue, IsEventEnable}

-- ---- sets of events

pub within_true : (events others : ℕ) → are_within events others ≡ true → AreWithin events others
unfolding are_within
within_true events others h = λ offset lt there. implied _ _ (all_below-at (λ k. not (has events k) || has others k) 16 h offset lt) there

pub true_within : (events others : ℕ) → AreWithin events others → are_within events others ≡ true
unfolding are_within
true_within events others h = at-all_below (λ k. not (has events k) || has others k) 16 (λ k lt. implies _ _ (h k lt))

min_one : (b : ℕ) → b < 2 → min b 1 ≡ b
min_one b small = omega arith

-- the low sixteen bits of a number
bit_below : (n offset : ℕ) → offset < 16 → bit_at (n % 2 ^ 16) offset ≡ bit_at n offset
bit_below n offset lt =
    ap (λ (m : ℕ). bit_at m offset) (sym (and_mask n 16)) ∙ bit_at_and n (2 ^ 16 - 1) offset ∙ ap (min (bit_at n offset)) (bit_at_ones 16 offset lt) ∙ min_one _ (bit_at-lt n offset)

pub has_below : (n offset : ℕ) → offset < 16 → has (n % 2 ^ 16) offset ≡ has n offset
has_below n offset lt = ap (λ (b : ℕ). b == 1) (bit_below n offset lt)

-- a number in two bytes is its low sixteen bits
pub in_two_bytes : (n : ℕ) → n % 256 + 256 * (n / 256 % 256) ≡ n % 2 ^ 16
in_two_bytes n = omega arith

pub has_in_two_bytes : (n offset : ℕ) → offset < 16 → has (n % 256 + 256 * (n / 256 % 256)) offset ≡ has n offset
has_in_two_bytes n offset lt = ap (λ (m : ℕ). has m offset) (in_two_bytes n) ∙ has_below n offset lt

-- ---- values

pub flags_are : (messages scanning : Bool) → flags_byte messages scanning ≡ flags_byte (makes_messages (flags_byte messages scanning)) (is_scanning (flags_byte messages scanning))
flags_are true true = refl
flags_are true false = refl
flags_are false true = refl
flags_are false false = refl

pub messages_are : (messages scanning : Bool) → makes_messages (flags_byte messages scanning) ≡ messages
messages_are true true = refl
messages_are true false = refl
messages_are false true = refl
messages_are false false = refl

pub scanning_is : (messages scanning : Bool) → is_scanning (flags_byte messages scanning) ≡ scanning
scanning_is true true = refl
scanning_is true false = refl
scanning_is false true = refl
scanning_is false false = refl

flags_fit : (messages scanning : Bool) → flags_byte messages scanning < 256
flags_fit true true = omega arith
flags_fit true false = omega arith
flags_fit false true = omega arith
flags_fit false false = omega arith

bytes_fit : (messages scanning : Bool) (enabled : EventMasks) (place : ℕ) → place < 5 → slice_index (event_value messages scanning enabled) place < 256
bytes_fit messages scanning enabled zero lt = flags_fit messages scanning
bytes_fit messages scanning enabled (suc zero) lt = omega arith
bytes_fit messages scanning enabled (suc (suc zero)) lt = omega arith
bytes_fit messages scanning enabled (suc (suc (suc zero))) lt = omega arith
bytes_fit messages scanning enabled (suc (suc (suc (suc zero)))) lt = omega arith
bytes_fit messages scanning enabled (suc (suc (suc (suc (suc k))))) lt = absurd (omega arith)

-- flags and events make a value
pub is_event_value : (messages scanning : Bool) (enabled : EventMasks) → IsEventValue (event_value messages scanning enabled)
is_event_value messages scanning enabled = record { five = refl; flags = flags_are messages scanning; bytes = bytes_fit messages scanning enabled }

within_below : (events others : ℕ) → AreWithin events others → AreWithin (events % 256 + 256 * (events / 256 % 256)) others
within_below events others within offset lt there = within offset lt (subst (λ (b : Bool). IsTrue b) (has_in_two_bytes events offset lt) there)

-- supported events make a value that a sensor can have
pub is_event_enable : (supported : ℕ) (messages scanning : Bool) (enabled : EventMasks) → AreWithin enabled.assertions supported → AreWithin enabled.deassertions supported
    → IsEventEnable supported (event_value messages scanning enabled)
is_event_enable supported messages scanning enabled asserted deasserted = record {
  is_value = is_event_value messages scanning enabled;
  assertions = within_below enabled.assertions supported asserted;
  deassertions = within_below enabled.deassertions supported deasserted;
}

-- events that pass the tests make such a value
pub tested_events : (supported : ℕ) (messages scanning : Bool) (enabled : EventMasks) → are_within enabled.assertions supported ≡ true → are_within enabled.deassertions supported ≡ true
    → IsEventEnable supported (event_value messages scanning enabled)
tested_events supported messages scanning enabled asserted deasserted = is_event_enable supported messages scanning enabled (within_true _ _ asserted) (within_true _ _ deasserted)
