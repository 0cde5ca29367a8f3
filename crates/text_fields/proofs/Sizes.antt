-- Numbers of the sizes of numeric effecters, and their bytes.
use Rattle.std.proofs.Common.{◌≡◌, ℕ, suc, ◌+◌, ◌-◌, ◌*◌, ◌/◌, ◌%◌, ◌<◌, ◌≤◌, nat_le, nat_lt, ℤ, pos, negsuc, ◌<ℤ◌, ◌≤ℤ◌, unsigned_abs, length, Bool, true, false, cond, Option, Some, None, option_and_then, refl, ap, arith, lit≤, lit<}
use Rattle.std.proofs.lemmas.Int.{ints}
use Rattle.std.proofs.lemmas.Bool.Decides.{nat_tests}
use Rattle.std.proofs.lemmas.Option.{same_Some}
use Rattle.toml.specs.Data.{Data, Members, as_integer}
use Rattle.record_base.specs.declared.numeric_size.NumericSize.{NumericSize}
use Rattle.record_base.specs.declared.numeric_size.NumericSize.TheVariants.{U8, S8, U16, S16, U32, S32}
use Rattle.record_base.specs.NumericSize.{width_of, numbers_of, negatives_of, rank, bytes_of, number_in}
use Rattle.text_fields.specs.declared.field.Field.{Field}
use Rattle.text_fields.specs.Trees.{in_field}
use Rattle.text_fields.specs.Numeric.{bits_of, sized, sized_in, in_order}

-- as many numbers are less than 0 as are negative
pub rank_of_zero : (size : NumericSize) → rank size 0 ≡ negatives_of size
rank_of_zero U8 = refl
rank_of_zero S8 = refl
rank_of_zero U16 = refl
rank_of_zero S16 = refl
rank_of_zero U32 = refl
rank_of_zero S32 = refl

pub negatives_fit : (size : NumericSize) → negatives_of size ≤ numbers_of size
negatives_fit U8 = lit≤ tt
negatives_fit S8 = lit≤ tt
negatives_fit U16 = lit≤ tt
negatives_fit S16 = lit≤ tt
negatives_fit U32 = lit≤ tt
negatives_fit S32 = lit≤ tt

-- a number of each size has at most four bytes
pub numbers_fit : (size : NumericSize) → numbers_of size ≤ 4294967296
numbers_fit U8 = lit≤ tt
numbers_fit S8 = lit≤ tt
numbers_fit U16 = lit≤ tt
numbers_fit S16 = lit≤ tt
numbers_fit U32 = lit≤ tt
numbers_fit S32 = lit≤ tt

numbers_there : (size : NumericSize) → 0 < numbers_of size
numbers_there U8 = lit< tt
numbers_there S8 = lit< tt
numbers_there U16 = lit< tt
numbers_there S16 = lit< tt
numbers_there U32 = lit< tt
numbers_there S32 = lit< tt

-- ---- integers

lt_true : (m n : ℕ) → nat_lt m n ≡ true → m < n
lt_true m n is = grind (arith, nat_tests)

le_true : (m n : ℕ) → nat_le m n ≡ true → m ≤ n
le_true m n is = grind (arith, nat_tests)

-- a number that a test lets through is that one
passed : (b : Bool) (m n : ℕ) → cond b (Some m) None ≡ Some n → (b ≡ true) × (m ≡ n)
passed true m n is = (refl, same_Some _ _ is)
passed false m n is = cc

-- an integer is as far from 0 as its absolute value says
pub bits_of_positive : (size : NumericSize) (z : ℤ) → pos 0 ≤ℤ z → bits_of size (pos (unsigned_abs z)) ≡ bits_of size z
bits_of_positive size (pos n) not_below = refl
bits_of_positive size (negsuc n) not_below = absurd (omega (arith, ints))

pub bits_of_negative : (size : NumericSize) (z : ℤ) → z <ℤ pos 0 → bits_of size (negsuc (unsigned_abs z - 1)) ≡ bits_of size z
bits_of_negative size (pos n) below = absurd (omega (arith, ints))
bits_of_negative size (negsuc n) below = ap (λ (m : ℕ). bits_of size (negsuc m)) (omega arith)

-- the bits of an integer of a size are a number of the size
pub bits_fit : (size : NumericSize) (z : ℤ) (n : ℕ) → bits_of size z ≡ Some n → n < numbers_of size
bits_fit size (pos m) n is =
    let (fits, same) = passed (nat_lt m (numbers_of size - negatives_of size)) m n is in
    let below : m < numbers_of size - negatives_of size = lt_true _ _ fits in
    omega arith
bits_fit size (negsuc m) n is =
    let (fits, same) = passed (nat_lt m (negatives_of size)) (numbers_of size - suc m) n is in
    let some = numbers_there size in
    omega arith

integer_fits : (size : NumericSize) (o : Option ℤ) (n : ℕ) → option_and_then (bits_of size) o ≡ Some n → n < numbers_of size
integer_fits size (Some z) n is = bits_fit size z n is
integer_fits size None n is = cc

-- so are those of a value, and of what a table has in a field
pub sized_fits : (size : NumericSize) (d : Data) (n : ℕ) → sized size d ≡ Some n → n < numbers_of size
sized_fits size d n is = integer_fits size (as_integer d) n is

value_fits : (size : NumericSize) (o : Option Data) (n : ℕ) → option_and_then (sized size) o ≡ Some n → n < numbers_of size
value_fits size (Some d) n is = sized_fits size d n is
value_fits size None n is = cc

pub field_fits : (size : NumericSize) (named : Field) (tree : Members) (n : ℕ) → sized_in size named tree ≡ Some n → n < numbers_of size
field_fits size named tree n is = value_fits size (in_field named tree) n is

-- ---- bytes

-- a number has the bytes of its size
pub bytes_long : (size : NumericSize) (n : ℕ) → length (bytes_of size n) ≡ width_of size
bytes_long U8 n = refl
bytes_long S8 n = refl
bytes_long U16 n = refl
bytes_long S16 n = refl
bytes_long U32 n = refl
bytes_long S32 n = refl

one : (n : ℕ) → n < 256 → n % 256 + 256 * 0 + 65536 * 0 + 16777216 * 0 ≡ n
one n fits = omega arith

two : (n : ℕ) → n < 65536 → n % 256 + 256 * (n / 256 % 256) + 65536 * 0 + 16777216 * 0 ≡ n
two n fits = omega arith

four : (n : ℕ) → n % 256 + 256 * (n / 256 % 256) + 65536 * (n / 65536 % 256) + 16777216 * (n / 16777216) ≡ n
four n = omega arith

-- they say it
pub bytes_tell : (size : NumericSize) (n : ℕ) → n < numbers_of size → number_in (bytes_of size n) ≡ n
bytes_tell U8 n fits = one n fits
bytes_tell S8 n fits = one n fits
bytes_tell U16 n fits = two n fits
bytes_tell S16 n fits = two n fits
bytes_tell U32 n fits = four n
bytes_tell S32 n fits = four n

-- ---- order

-- two numbers in their order
pub record Ordered (size : NumericSize) (a b : Option ℕ) : Type 0 where
  pub low : ℕ
  pub high : ℕ
  pub is_low : a ≡ Some low
  pub is_high : b ≡ Some high
  pub order : rank size low ≤ rank size high

pub ordered : (size : NumericSize) (a b : Option ℕ) → in_order size a b ≡ true → Ordered size a b
ordered size (Some m) (Some n) is = record { low = m; high = n; is_low = refl; is_high = refl; order = le_true _ _ is }
ordered size (Some m) None is = cc
ordered size None (Some n) is = cc
ordered size None None is = cc

-- the order of two numbers that are found
pub order_of : (size : NumericSize) (a b : Option ℕ) (m n : ℕ) → in_order size a b ≡ true → a ≡ Some m → b ≡ Some n → rank size m ≤ rank size n
order_of size a b m n is low high = le_true _ _ (rw (low, high) at is)
