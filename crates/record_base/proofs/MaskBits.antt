-- A mask is within a set exactly where it has no bit that the set lacks.
use Rattle.std.proofs.Common.{◌≡◌, ℕ, ◌-◌, ◌^◌, ◌<◌, min, bit_and, IsTrue, nat_eq, sym, ◌∙◌, ap, arith, w8, w16}
use Rattle.std.specs.Int.{bit_at}
use Rattle.std.proofs.lemmas.Nat.{and_le_l}
use Rattle.std.proofs.lemmas.Nat.Bits.{bit_at_and, bit_at_not, bit_at-zero, bit_at-lt, same_from_bits_below}
use Rattle.std.proofs.lemmas.Bool.Decides.{nat_tests}
use Rattle.record_base.specs.Masks.{IsWithin}
use Rattle.record_base.specs.Sensor.EventEnable.{AreWithin}

one_left : (a b : ℕ) → 0 ≡ min a (1 - b) → a ≡ 1 → b < 2 → b ≡ 1
one_left a b h e l = omega arith

none_left : (a b : ℕ) → (a ≡ 1 → b ≡ 1) → a < 2 → min a (1 - b) ≡ 0
none_left a b h l = grind arith

bits_left : (mask set place : ℕ) → set < 2 ^ 8 → place < 8 → bit_at (bit_and mask (255 - set)) place ≡ min (bit_at mask place) (1 - bit_at set place)
bits_left mask set place small within = bit_at_and mask (255 - set) place ∙ ap (min (bit_at mask place)) (bit_at_not w8 set place small within)

test_one : (n : ℕ) → IsTrue (nat_eq n 1) → n ≡ 1
test_one n h = grind (arith, nat_tests)

one_test : (n : ℕ) → n ≡ 1 → IsTrue (nat_eq n 1)
one_test n h = grind (arith, nat_tests)

pub IsWithin-from_zero : (mask set : ℕ) → set < 2 ^ 8 → bit_and mask (255 - set) ≡ 0 → IsWithin mask set
IsWithin-from_zero mask set small zero place within there =
    one_test _ (one_left _ _ (sym (bit_at-zero place) ∙ sym (ap (λ n. bit_at n place) zero) ∙ bits_left mask set place small within) (test_one _ there) (bit_at-lt set place))

pub zero-from_IsWithin : (mask set : ℕ) → mask < 2 ^ 8 → set < 2 ^ 8 → IsWithin mask set → bit_and mask (255 - set) ≡ 0
zero-from_IsWithin mask set fits small h =
    let below : bit_and mask (255 - set) < 2 ^ 8 = omega (arith, and_le_l mask (255 - set)) in
    same_from_bits_below 8 _ 0 below (omega arith) (λ place within.
    bits_left mask set place small within
    ∙ none_left _ _ (λ e. test_one _ (h place within (one_test _ e))) (bit_at-lt mask place)
    ∙ sym (bit_at-zero place))

-- ---- sets of sixteen events

events_left : (events others offset : ℕ) → others < 2 ^ 16 → offset < 16 → bit_at (bit_and events (65535 - others)) offset ≡ min (bit_at events offset) (1 - bit_at others offset)
events_left events others offset fits within = bit_at_and events (65535 - others) offset ∙ ap (min (bit_at events offset)) (bit_at_not w16 others offset fits within)

pub AreWithin-from_zero : (events others : ℕ) → others < 2 ^ 16 → bit_and events (65535 - others) ≡ 0 → AreWithin events others
AreWithin-from_zero events others fits zero offset within there =
    one_test _ (one_left _ _ (sym (bit_at-zero offset) ∙ sym (ap (λ n. bit_at n offset) zero) ∙ events_left events others offset fits within) (test_one _ there) (bit_at-lt others offset))

pub zero-from_AreWithin : (events others : ℕ) → events < 2 ^ 16 → others < 2 ^ 16 → AreWithin events others → bit_and events (65535 - others) ≡ 0
zero-from_AreWithin events others small fits h =
    let below : bit_and events (65535 - others) < 2 ^ 16 = omega (arith, and_le_l events (65535 - others)) in
    same_from_bits_below 16 _ 0 below (omega arith) (λ offset within.
    events_left events others offset fits within
    ∙ none_left _ _ (λ e. test_one _ (h offset within (one_test _ e))) (bit_at-lt events offset)
    ∙ sym (bit_at-zero offset))
