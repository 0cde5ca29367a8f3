-- Numeric effecters (DSP0248). A value has the bytes of one number of the effecter's size, the low byte first.
use Rattle.std.specs.Prelude.{◌≡◌, ℕ, ◌≤◌, List, length, Bool, nat_le, ◌&&◌, ◌==◌}
use Rattle.record_base.specs.declared.numeric_range.NumericRange.{NumericRange}
use Rattle.record_base.specs.NumericSize.{width_of, rank, number_in}

-- a value that an effecter with these bounds can have
pub record IsNumeric (range : NumericRange) (value : List ℕ) : Type 0 where
  pub of_size : length value ≡ width_of range.size
  pub above : rank range.size range.lower ≤ rank range.size (number_in value)
  pub below : rank range.size (number_in value) ≤ rank range.size range.upper

-- the test that a number is within the bounds
abbrev pub is_between : NumericRange → ℕ → Bool
is_between range number = nat_le (rank range.size range.lower) (rank range.size number) && nat_le (rank range.size number) (rank range.size range.upper)

-- the test that an effecter with these bounds can have the value
abbrev pub is_numeric : NumericRange → List ℕ → Bool
is_numeric range value = (length value == width_of range.size) && is_between range (number_in value)
