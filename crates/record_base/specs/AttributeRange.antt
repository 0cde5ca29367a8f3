-- Which values a BIOS attribute can have.
use Rattle.std.specs.Prelude.{◌≡◌, ◌≢◌, ℕ, ◌-◌, ◌%◌, ◌≤◌, ◌==◌, ◌&&◌, ◌||◌, nat_lt, nat_le, List, length, IsTrue, Bool, false, Option, Some, None}
use Rattle.std.specs.List.{list_all}
use Rattle.std.specs.Option.{IsSomeAnd}
use Rattle.record_base.specs.declared.attribute_range.AttributeRange.{AttributeRange}
use Rattle.record_base.specs.declared.attribute_range.AttributeRange.TheVariants as range
use Rattle.record_base.specs.declared.attribute_range.IntegerSteps.{IntegerSteps}
use Rattle.record_base.specs.declared.attribute_range.TextLengths.{TextLengths}
use Rattle.record_base.specs.declared.attribute_value.AttributeValue.{AttributeValue}
use Rattle.record_base.specs.declared.attribute_value.AttributeValue.TheVariants.{Indexes, Text, Number}
use Rattle.record_base.specs.AttributeValue.{enumeration_type, string_type, integer_type, value_in}

-- the type of an attribute with these values
abbrev pub type_of : AttributeRange → ℕ
type_of (range.Enumeration possible) = enumeration_type
type_of (range.Text lengths) = string_type
type_of (range.Integer steps) = integer_type

-- one or several of the possible values: no more indexes than possible values, and each index is that of a possible value
pub record AllowsIndexes (count : ℕ) (indexes : List ℕ) : Type 0 where
  pub some : 1 ≤ length indexes
  pub few : length indexes ≤ count
  pub known : IsTrue (list_all (λ index. nat_lt index count) indexes)

-- a text of a length from the least to the most
pub record AllowsText (lengths : TextLengths) (text : List ℕ) : Type 0 where
  pub enough : lengths.least ≤ length text
  pub few : length text ≤ lengths.most

-- a number from the lower to the upper bound. Where the increment isn't 0, it is whole steps above the lower bound.
pub record AllowsNumber (steps : IntegerSteps) (number : ℕ) : Type 0 where
  pub above : steps.lower ≤ number
  pub below : number ≤ steps.upper
  pub stepped : steps.increment ≢ 0 → (number - steps.lower) % steps.increment ≡ 0

-- the attribute can have the value
abbrev pub AllowsValue : AttributeRange → AttributeValue → Type 0
AllowsValue (range.Enumeration possible) (Indexes indexes) = AllowsIndexes possible.count indexes
AllowsValue (range.Text lengths) (Text text) = AllowsText lengths text
AllowsValue (range.Integer steps) (Number number) = AllowsNumber steps number
AllowsValue _ _ = ⊥

-- the test that the attribute can have the value
abbrev pub allows : AttributeRange → AttributeValue → Bool
allows (range.Enumeration possible) (Indexes indexes) = nat_le 1 (length indexes) && (nat_le (length indexes) possible.count && list_all (λ index. nat_lt index possible.count) indexes)
allows (range.Text lengths) (Text text) = nat_le lengths.least (length text) && nat_le (length text) lengths.most
allows (range.Integer steps) (Number number) = nat_le steps.lower number && (nat_le number steps.upper && (steps.increment == 0 || (number - steps.lower) % steps.increment == 0))
allows _ _ = false

-- the bytes of a value that the attribute can have
abbrev pub IsValue : AttributeRange → List ℕ → Type 0
IsValue allowed bytes = IsSomeAnd (value_in (type_of allowed) bytes) (AllowsValue allowed)

-- the test that bytes are those of a value that the attribute can have
abbrev pub is_allowed : AttributeRange → Option AttributeValue → Bool
is_allowed allowed (Some value) = allows allowed value
is_allowed allowed None = false
