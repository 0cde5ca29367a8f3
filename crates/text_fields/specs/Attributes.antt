-- BIOS attributes in files: their texts, lists and numbers.
use Rattle.std.specs.Prelude.{ℕ, ◌==◌, ◌-◌, ◌%◌, nat_lt, nat_le, Bool, false, ◌&&◌, ◌||◌, List, length, if◌then◌else◌, Option, Some, None, is_some, option_and_then, codes}
use Rattle.std.specs.List.{list_all}
use Rattle.std.specs.Str.{bytes_eq}
use Rattle.record_base.specs.AttributeSizes.{most_name, most_text, most_indexes}
use Rattle.toml.specs.Data.{Data, Members, as_str}
use Rattle.text_fields.specs.declared.field.Field.{Field}
use Rattle.text_fields.specs.Trees.{in_field, natural}

-- a text of at most so many bytes
abbrev pub text_within : ℕ → List ℕ → Option (List ℕ)
text_within most text = if nat_le (length text) most then Some text else None

-- a short text, of at most 200 bytes: a name, or a possible value
abbrev pub short_text : List ℕ → Option (List ℕ)
short_text text = text_within most_name text

-- the short text that a value is
abbrev pub text_of : Data → Option (List ℕ)
text_of d = option_and_then short_text (as_str d)

-- the short text that a table has in the field
abbrev pub text_in : Field → Members → Option (List ℕ)
text_in named tree = option_and_then text_of (in_field named tree)

-- the text of at most `most_text` bytes that a value is: what a string can be
abbrev pub string_of : Data → Option (List ℕ)
string_of d = option_and_then (text_within most_text) (as_str d)

-- such a text that a table has in the field
abbrev pub string_in : Field → Members → Option (List ℕ)
string_in named tree = option_and_then string_of (in_field named tree)

-- what an attribute is
abbrev pub is_kind : List ℕ → Bool
is_kind text = bytes_eq text (codes "enumeration") || (bytes_eq text (codes "string") || bytes_eq text (codes "integer"))

-- at least one and at most 16 possible values
abbrev pub are_values : List Data → Bool
are_values ds = nat_le 1 (length ds) && (nat_le (length ds) most_indexes && list_all (λ d. is_some (text_of d)) ds)

-- the number is below this one
abbrev pub is_below : ℕ → Option ℕ → Bool
is_below count (Some n) = nat_lt n count
is_below count None = false

-- a list of at least one and at most so many indexes, each of so many possible values
abbrev pub are_indexes : ℕ → ℕ → List Data → Bool
are_indexes most count ds = nat_le 1 (length ds) && (nat_le (length ds) most && list_all (λ d. is_below count (natural d)) ds)

-- a text of a length from the least to the most
abbrev pub is_as_long : ℕ → ℕ → List ℕ → Bool
is_as_long least most text = nat_le least (length text) && nat_le (length text) most

-- a number from the lower to the upper, by steps of the increment from the lower on where that isn't 0
abbrev pub is_stepped : ℕ → ℕ → ℕ → ℕ → Bool
is_stepped lower upper increment n = nat_le lower n && (nat_le n upper && (increment == 0 || (n - lower) % increment == 0))
