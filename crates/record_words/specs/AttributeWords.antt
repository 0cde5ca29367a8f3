-- The value of a BIOS attribute in words (DSP0247).
use Rattle.std.specs.Prelude.{ℕ, nat_eq, Bool, ◌==◌, ◌&&◌, Option, Some, None, List, ◌++◌, if◌then◌else◌, codes}
use Rattle.std.specs.List.{flat_map}
use Rattle.std.specs.Option.{option_map}
use Rattle.std.specs.Cmp.Lexicographic.{pointwise}
use Rattle.std.specs.Fmt.{decimal}
use Rattle.record_base.specs.AttributeValue.{value_in}
use Rattle.record_base.specs.declared.attribute_value.AttributeValue.{AttributeValue}
use Rattle.record_base.specs.declared.attribute_value.AttributeValue.TheVariants.{Indexes, Text, Number}
use Rattle.record_base.specs.declared.bios_attribute.SetBiosAttribute.{SetBiosAttribute}
use Rattle.record_words.specs.declared.attribute.AttributeLine.{AttributeLine}
use Rattle.record_words.specs.declared.attribute.Valued.{Valued}
use Rattle.record_words.specs.declared.parts.Way.{Way}
use Rattle.record_words.specs.declared.parts.Way.TheVariants.{There, Back}
use Rattle.record_words.specs.Digits.{spaced_of}
use Rattle.record_words.specs.Quotes.{quoted}

-- numbers, a space before each
abbrev pub numbers_of : List ℕ → List ℕ
numbers_of bytes = flat_map (λ byte. codes " " ++ decimal byte) bytes

-- a value, where bytes of a type are one: a number, a text, or the indexes of an enumeration's values; and else the type and the bytes
abbrev pub read_words : (type : ℕ) → List ℕ → Option AttributeValue → List ℕ
read_words type bytes (Some (Number number)) = decimal number
read_words type bytes (Some (Text text)) = quoted text
read_words type bytes (Some (Indexes indexes)) = codes "indexes" ++ numbers_of indexes
read_words type bytes None = codes "type " ++ (decimal type ++ (codes " bytes" ++ spaced_of bytes))

abbrev pub value_words : (type : ℕ) → List ℕ → List ℕ
value_words type bytes = read_words type bytes (value_in type bytes)

-- a type, and the bytes of a value
abbrev pub Typed : Type 0
Typed = ℕ × List ℕ

abbrev pub meant : Valued → Typed
meant it = (it.type_code, it.bytes.now)

-- those that an operation gives
abbrev pub given : SetBiosAttribute → Typed
given set = (set.attribute_type, set.value)

-- two values are of one type and have the same bytes
abbrev pub same_value : Typed → Typed → Bool
same_value one other = (one.0 == other.0) && pointwise nat_eq one.1 other.1

-- what is said of an attribute that was so, where that is known, and becomes so
abbrev pub change_words : Option Typed → Typed → List ℕ
change_words None new = codes ": " ++ value_words new.0 new.1
change_words (Some old) new =
    if same_value old new then codes ": no change"
    else codes ": " ++ (value_words old.0 old.1 ++ (codes " -> " ++ value_words new.0 new.1))

abbrev pub by_way : Way → Option Typed → Typed → List ℕ
by_way There old new = change_words old new
by_way Back old new = codes " <- " ++ value_words new.0 new.1

-- the line of an attribute
abbrev pub attribute_words : ℕ → Way → Option Typed → Typed → List ℕ
attribute_words attribute way old new = codes "attribute " ++ (decimal attribute ++ by_way way old new)

abbrev pub line_of : AttributeLine → List ℕ
line_of it = attribute_words it.attribute it.way (option_map meant it.old) (meant it.new)
