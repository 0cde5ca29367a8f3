-- Numbers of numeric effecters in files: integers of the size that an item names.
use Rattle.std.specs.Prelude.{ℕ, ◌-◌, ◌==◌, ℤ, pos, negsuc, suc, nat_le, nat_lt, if◌then◌else◌, Bool, false, List, Option, Some, None, option_and_then, option_map, ◌≡◌, [], ◌∷◌}
use Rattle.std.specs.List.{find}
use Rattle.toml.specs.Data.{Data, Members, as_integer}
use Rattle.record_base.specs.declared.numeric_size.NumericSize.{NumericSize}
use Rattle.record_base.specs.NumericSize.{code_of, numbers_of, negatives_of, rank, bytes_of}
use Rattle.text_fields.specs.declared.field.Field.{Field}
use Rattle.text_fields.specs.declared.field.Field.TheVariants as field
use Rattle.text_fields.specs.declared.numeric.TheConstants.{SIZES}
use Rattle.text_fields.specs.Trees.{in_field, number_in}
use Rattle.record_base.specs.declared.numeric_effecter.NumericBytes.{NumericBytes}
use Rattle.record_base.specs.declared.numeric_effecter.NumericBytes.TheVariants as bytes

-- the size for which this number stands
unfoldable pub size_at : ℕ → Option NumericSize
size_at code = find (λ size. code_of size == code) SIZES

-- the size that an item names
abbrev pub size_in : Members → Option NumericSize
size_in tree = option_and_then size_at (number_in field.Size tree)

-- the number of the size whose bits an integer has, negative ones in two's complement: none for an integer of another size
abbrev pub bits_of : NumericSize → ℤ → Option ℕ
bits_of size (pos n) = if nat_lt n (numbers_of size - negatives_of size) then Some n else None
bits_of size (negsuc n) = if nat_lt n (negatives_of size) then Some (numbers_of size - suc n) else None

-- the number of the size that a value is
abbrev pub sized : NumericSize → Data → Option ℕ
sized size d = option_and_then (bits_of size) (as_integer d)

-- the number of the size that a table has in the field
abbrev pub sized_in : NumericSize → Field → Members → Option ℕ
sized_in size named tree = option_and_then (sized size) (in_field named tree)

-- there are two numbers of the size, and the first isn't above the second
abbrev pub in_order : NumericSize → Option ℕ → Option ℕ → Bool
in_order size (Some low) (Some high) = nat_le (rank size low) (rank size high)
in_order size _ _ = false

-- the bytes of the number, of its own size, that an item has in the field
abbrev pub sized_bytes : Field → Members → Option (List ℕ)
sized_bytes named tree = option_and_then (λ size. option_map (bytes_of size) (sized_in size named tree)) (size_in tree)

-- what a step tells are the bytes of a request's value
abbrev pub AreValueBytes : NumericBytes → Option (List ℕ) → Type 0
AreValueBytes (bytes.One a) found = found ≡ Some (a ∷ [])
AreValueBytes (bytes.Two a b) found = found ≡ Some (a ∷ b ∷ [])
AreValueBytes (bytes.Four a b c d) found = found ≡ Some (a ∷ b ∷ c ∷ d ∷ [])
AreValueBytes bytes.Other found = ⊥
