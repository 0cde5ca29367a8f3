-- The values of BIOS attributes, and their bytes (DSP0247).
use Rattle.std.specs.Prelude.{ℕ, ◌+◌, ◌*◌, ◌/◌, ◌%◌, ◌^◌, ◌<◌, ◌==◌, List, [], ◌∷◌, ◌++◌, length, if◌then◌else◌, Option, Some, None}
use Rattle.std.specs.Int.{w64, to_le_bytes, from_le_bytes}
use Rattle.record_base.specs.declared.attribute_value.AttributeValue.{AttributeValue}
use Rattle.record_base.specs.declared.attribute_value.AttributeValue.TheVariants.{Indexes, Text, Number}

-- a number's two bytes, the low byte first
abbrev pub two_bytes : ℕ → List ℕ
two_bytes number = number % 256 ∷ number / 256 ∷ []

-- the number of two bytes
abbrev pub number_of : ℕ → ℕ → ℕ
number_of low high = low + 256 * high

-- the types of attributes
abbrev pub enumeration_type : ℕ
enumeration_type = 0x00

abbrev pub string_type : ℕ
string_type = 0x01

abbrev pub integer_type : ℕ
integer_type = 0x03

-- the type of a value
abbrev pub type_of_value : AttributeValue → ℕ
type_of_value (Indexes indexes) = enumeration_type
type_of_value (Text text) = string_type
type_of_value (Number number) = integer_type

-- a value's bytes: the number of indexes, and the indexes; a text's length in two bytes, and the text; a number in eight bytes
abbrev pub value_bytes : AttributeValue → List ℕ
value_bytes (Indexes indexes) = length indexes ∷ indexes
value_bytes (Text text) = two_bytes (length text) ++ text
value_bytes (Number number) = to_le_bytes w64 number

-- a number has eight bytes
abbrev pub HasEightBytes : AttributeValue → Type 0
HasEightBytes (Number number) = number < 2 ^ 64
HasEightBytes _ = Unit {0}

-- ---- bytes as values

abbrev pub indexes_in : List ℕ → Option AttributeValue
indexes_in (count ∷ indexes) = if count == length indexes then Some (Indexes indexes) else None
indexes_in _ = None

abbrev pub text_in : List ℕ → Option AttributeValue
text_in (low ∷ high ∷ text) = if number_of low high == length text then Some (Text text) else None
text_in _ = None

abbrev pub number_in : List ℕ → Option AttributeValue
number_in bytes = if length bytes == 8 then Some (Number (from_le_bytes w64 bytes)) else None

-- the value of this type with these bytes, if a value of the type can have so many
abbrev pub value_in : ℕ → List ℕ → Option AttributeValue
value_in code bytes =
    if code == enumeration_type then indexes_in bytes
    else (if code == string_type then text_in bytes
    else (if code == integer_type then number_in bytes
    else None))
