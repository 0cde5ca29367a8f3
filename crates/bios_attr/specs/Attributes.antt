-- The strings of a board's attributes, and the entries of their tables (DSP0247).
use Rattle.std.specs.Prelude.{ℕ, ◌+◌, List, [], ◌∷◌, ◌++◌, length, Bool, if◌then◌else◌, nat_eq}
use Rattle.std.specs.List.{flat_map, list_any, position}
use Rattle.std.specs.Option.{unwrap_or}
use Rattle.std.specs.Cmp.Lexicographic.{pointwise}
use Rattle.std.specs.Int.{w32, w64, to_le_bytes}
use Rattle.record_base.specs.declared.attribute.Attribute.{Attribute}
use Rattle.record_base.specs.declared.attribute.IntegerAttribute.{IntegerAttribute}
use Rattle.record_base.specs.declared.attribute.AttributeKind.{AttributeKind}
use Rattle.record_base.specs.declared.attribute.AttributeKind.TheVariants.{Enumeration, Text, Integer}
use Rattle.record_base.specs.AttributeValue.{two_bytes}
use Rattle.record_base.specs.Attribute.{type_of_kind}
use Rattle.bios_attr.specs.ValueEntry.{shown_type}

-- ---- strings

-- the texts are one
abbrev pub is_text : List ℕ → List ℕ → Bool
is_text text other = pointwise nat_eq other text

-- the strings with a text behind them, unless it is among them
abbrev pub with_text : List (List ℕ) → List ℕ → List (List ℕ)
with_text strings text = if list_any (is_text text) strings then strings else strings ++ text ∷ []

-- the strings with these texts, one after the other
abbrev pub with_texts : List (List ℕ) → List (List ℕ) → List (List ℕ)
with_texts strings [] = strings
with_texts strings (text ∷ texts) = with_texts (with_text strings text) texts

-- the possible values of an enumeration
abbrev pub values_of : AttributeKind → List (List ℕ)
values_of (Enumeration e) = e.values
values_of _ = []

-- the texts that an attribute uses: its name, then its possible values
abbrev pub texts_of : Attribute → List (List ℕ)
texts_of attribute = attribute.name ∷ values_of attribute.kind

-- the strings with those of these attributes
abbrev pub with_attributes : List (List ℕ) → List Attribute → List (List ℕ)
with_attributes strings [] = strings
with_attributes strings (attribute ∷ attributes) = with_attributes (with_texts strings (texts_of attribute)) attributes

-- the distinct texts of attributes, in order of first use
abbrev pub strings_of : List Attribute → List (List ℕ)
strings_of attributes = with_attributes [] attributes

-- the handle of a text: its place among the strings
abbrev pub handle_of : List (List ℕ) → List ℕ → ℕ
handle_of strings text = unwrap_or (position (is_text text) strings) 0

-- ---- entries

-- a string's entry: its handle, its length, and the text
abbrev pub string_entry : ℕ → List ℕ → List ℕ
string_entry handle text = two_bytes handle ++ (two_bytes (length text) ++ text)

-- the entries of strings, whose handles count from this one
abbrev pub string_entries : ℕ → List (List ℕ) → List ℕ
string_entries handle [] = []
string_entries handle (text ∷ texts) = string_entry handle text ++ string_entries (handle + 1) texts

-- the handles of texts
abbrev pub handles_of : List (List ℕ) → List (List ℕ) → List ℕ
handles_of strings texts = flat_map (λ text. two_bytes (handle_of strings text)) texts

-- what an integer's entry says: its bounds, its increment, and what it is at first
abbrev pub integer_fields : IntegerAttribute → List ℕ
integer_fields i = to_le_bytes w64 i.steps.lower ++ (to_le_bytes w64 i.steps.upper ++ (to_le_bytes w32 i.steps.increment ++ to_le_bytes w64 i.default))

-- what an attribute's entry says of its kind
abbrev pub kind_fields : List (List ℕ) → AttributeKind → List ℕ
kind_fields strings (Enumeration e) = length e.values ∷ (handles_of strings e.values ++ length e.default ∷ e.default)
kind_fields strings (Text t) = t.string_type ∷ (two_bytes t.lengths.least ++ (two_bytes t.lengths.most ++ (two_bytes (length t.default) ++ t.default)))
kind_fields strings (Integer i) = integer_fields i

-- an attribute's entry: its handle, its type, the handle of its name, and what is said of its kind
abbrev pub attribute_entry : List (List ℕ) → Attribute → List ℕ
attribute_entry strings attribute =
    two_bytes attribute.handle ++ shown_type attribute.read_only (type_of_kind attribute.kind) ∷ (two_bytes (handle_of strings attribute.name) ++ kind_fields strings attribute.kind)

-- the entries of attributes
abbrev pub attribute_entries : List (List ℕ) → List Attribute → List ℕ
attribute_entries strings attributes = flat_map (attribute_entry strings) attributes
