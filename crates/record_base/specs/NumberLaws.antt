-- Numbers of some bits are one where their numbers are.
use Rattle.std.proofs.Common.{◌≡◌, ℕ, ◌^◌, ◌<◌, subst}
use Rattle.std.proofs.Props.{props}
use Rattle.std.proofs.Math.Nat.{mod-eq_of_lt}
use Rattle.record_base.specs.declared.bit_field.BitField.{BitField}
use Rattle.record_base.specs.Numbers.{low_bits}

below_prop : (m n : ℕ) → IsProp (m < n)
below_prop m n = hlevel props

abbrev field_at : (bits n : ℕ) → n < 2 ^ bits → BitField bits
field_at bits n lt = record { number = n; below = lt }

same_field_at : (bits m n : ℕ) (p : m < 2 ^ bits) (q : n < 2 ^ bits) → m ≡ n → field_at bits m p ≡ field_at bits n q
same_field_at bits m n p q same =
    subst (λ (k : ℕ). (r : k < 2 ^ bits) → field_at bits m p ≡ field_at bits k r) same (λ r i. field_at bits m (below_prop m (2 ^ bits) p r i)) q

pub same_field : {bits : ℕ} (a b : BitField bits) → a.number ≡ b.number → a ≡ b
same_field {bits} a b same = same_field_at bits a.number b.number a.below b.below same

-- a number is read back from a byte
pub low_bits_again : {bits : ℕ} (field : BitField bits) → low_bits bits field.number ≡ field
low_bits_again {bits} field = same_field (low_bits bits field.number) field (mod-eq_of_lt field.below)
