-- Attribute entries (DSP0247): an attribute's handle, its type, the handle of its name, and what its type wants.
use Rattle.std.specs.Prelude.{◌≡◌, ℕ, ◌^◌, ◌<◌, ◌*◌, ◌/◌, ◌%◌, nat_le, List, ◌∷◌, ◌++◌, ◌==◌, length, take, drop, if◌then◌else◌, Option, Some, None}
use Rattle.std.specs.Option.{option_map}
use Rattle.std.specs.Int.{w32, w64, to_le_bytes, from_le_bytes}
use Rattle.record_base.specs.AttributeValue.{two_bytes, number_of, enumeration_type, string_type, integer_type}
use Rattle.bios_attr.specs.declared.attribute_entry.AttributeEntry.{AttributeEntry}
use Rattle.bios_attr.specs.declared.attribute_entry.IntegerFields.{IntegerFields}
use Rattle.bios_attr.specs.declared.attribute_entry.KindFields.{KindFields}
use Rattle.bios_attr.specs.declared.attribute_entry.KindFields.TheVariants.{Enumeration, Text, Integer}
use Rattle.bios_attr.specs.ValueEntry.{read_only_bit, shown_type}
use Rattle.bios_attr.specs.StringEntry.{piece}

-- the type of an attribute of this kind
abbrev pub type_of_fields : KindFields → ℕ
type_of_fields (Enumeration e) = enumeration_type
type_of_fields (Text t) = string_type
type_of_fields (Integer i) = integer_type

-- a kind's bytes: how many handles there are, and these, then how many indexes, and these; a string's type, its lengths, and the text that
-- it is at first, behind its length; an integer's bounds, its increment, and what it is at first
abbrev pub fields_bytes : KindFields → List ℕ
fields_bytes (Enumeration e) = length e.values / 2 ∷ (e.values ++ length e.default ∷ e.default)
fields_bytes (Text t) = t.string_type ∷ (two_bytes t.least ++ (two_bytes t.most ++ (two_bytes (length t.default) ++ t.default)))
fields_bytes (Integer i) = to_le_bytes w64 i.lower ++ (to_le_bytes w64 i.upper ++ (to_le_bytes w32 i.increment ++ to_le_bytes w64 i.default))

-- an entry's bytes
abbrev pub attribute_bytes : AttributeEntry → List ℕ
attribute_bytes entry = two_bytes entry.attribute ++ shown_type entry.read_only (type_of_fields entry.kind) ∷ (two_bytes entry.name ++ fields_bytes entry.kind)

-- the numbers of an integer have eight and four bytes
pub record AreSmall (i : IntegerFields) : Type 0 where
  pub lower : i.lower < 2 ^ 64
  pub upper : i.upper < 2 ^ 64
  pub increment : i.increment < 2 ^ 32
  pub default : i.default < 2 ^ 64

-- each handle has two bytes, and each number no more than its own
abbrev pub HasItsBytes : KindFields → Type 0
HasItsBytes (Enumeration e) = length e.values ≡ 2 * (length e.values / 2)
HasItsBytes (Text t) = Unit {0}
HasItsBytes (Integer i) = AreSmall i

-- ---- bytes as entries: what an entry says, and what is behind it

-- an enumeration with these handles: how many indexes there are, and these
abbrev pub default_at : List ℕ → List ℕ → Option (KindFields × List ℕ)
default_at values (count ∷ bytes) = piece count bytes (λ default rest. Some (Enumeration (record { values = values; default = default }), rest))
default_at values _ = None

-- how many handles there are, and these
abbrev pub enumeration_at : List ℕ → Option (KindFields × List ℕ)
enumeration_at (count ∷ bytes) = piece (2 * count) bytes default_at
enumeration_at _ = None

-- a string's type, its lengths, and a text behind its length
abbrev pub text_at : List ℕ → Option (KindFields × List ℕ)
text_at (type ∷ a ∷ b ∷ c ∷ d ∷ low ∷ high ∷ bytes) = piece (number_of low high) bytes (λ default rest. Some (Text (record { string_type = type; least = number_of a b; most = number_of c d; default = default }), rest))
text_at _ = None

-- the numbers of eight, eight, four and eight bytes
abbrev pub numbers_in : List ℕ → IntegerFields
numbers_in bytes = record {
  lower = from_le_bytes w64 (take 8 bytes);
  upper = from_le_bytes w64 (take 8 (drop 8 bytes));
  increment = from_le_bytes w32 (take 4 (drop 16 bytes));
  default = from_le_bytes w64 (take 8 (drop 20 bytes));
}

-- four numbers
abbrev pub integer_at : List ℕ → Option (KindFields × List ℕ)
integer_at bytes = if nat_le 28 (length bytes) then Some (Integer (numbers_in bytes), drop 28 bytes) else None

-- what the type wants
abbrev pub fields_at : ℕ → List ℕ → Option (KindFields × List ℕ)
fields_at code bytes =
    if code == enumeration_type then enumeration_at bytes
    else (if code == string_type then text_at bytes
    else (if code == integer_type then integer_at bytes
    else None))

-- the entry at the front of the bytes, and what is behind it
abbrev pub attribute_at : List ℕ → Option (AttributeEntry × List ℕ)
attribute_at (low ∷ high ∷ code ∷ a ∷ b ∷ bytes) =
    option_map (λ found. (record { attribute = number_of low high; read_only = nat_le read_only_bit code; name = number_of a b; kind = found.0 }, found.1)) (fields_at (code % read_only_bit) bytes)
attribute_at _ = None
