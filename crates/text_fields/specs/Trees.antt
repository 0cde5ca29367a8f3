-- What the tables of a file have.
use Rattle.std.specs.Prelude.{◌≡◌, ◌==◌, ℕ, ℤ, pos, negsuc, nat_lt, if◌then◌else◌, List, [], ◌∷◌, length, Bool, Option, Some, None, is_none, option_and_then, option_map, ◌<◌}
use Rattle.std.specs.List.{list_all}
use Rattle.toml.specs.Data.{Data, Items, no_items, item, Members, no_members, get_member, as_bool, as_integer, as_array, as_table}
use Rattle.text_fields.specs.declared.field.Field.{Field}
use Rattle.text_fields.specs.Words.{word}

-- the members of an array
abbrev pub list_of : Items → List Data
list_of no_items = []
list_of (item d ds) = d ∷ list_of ds

-- the members of the array that a value is
abbrev pub members : Data → Option (List Data)
members d = option_map list_of (as_array d)

-- an integer that isn't negative
abbrev pub not_negative : ℤ → Option ℕ
not_negative (pos n) = Some n
not_negative (negsuc n) = None

-- the natural number that a value is
abbrev pub natural : Data → Option ℕ
natural d = option_and_then not_negative (as_integer d)

-- a value is this number
abbrev pub IsNaturalIn : Data → ℕ → Type 0
IsNaturalIn d n = natural d ≡ Some n

-- a number before a list of numbers
abbrev pub before : Option ℕ → Option (List ℕ) → Option (List ℕ)
before (Some n) (Some ns) = Some (n ∷ ns)
before _ _ = None

-- the natural numbers that values are
abbrev pub naturals : List Data → Option (List ℕ)
naturals [] = Some []
naturals (d ∷ ds) = before (natural d) (naturals ds)

-- a list of so many
abbrev pub of_length : ℕ → Option (List ℕ) → Option (List ℕ)
of_length count (Some ns) = if length ns == count then Some ns else None
of_length count None = None

-- the natural numbers in the array that a value is, where there are so many
abbrev pub naturals_in : ℕ → Data → Option (List ℕ)
naturals_in count d = of_length count (option_and_then naturals (members d))

-- a list of bytes
abbrev pub all_bytes : List ℕ → Option (List ℕ)
all_bytes ns = if list_all (λ n. nat_lt n 256) ns then Some ns else None

-- the bytes in the array that a value is, where there are so many
abbrev pub bytes_in : ℕ → Data → Option (List ℕ)
bytes_in count d = option_and_then all_bytes (naturals_in count d)

-- ---- by the field

-- what a table has in the field
abbrev pub in_field : Field → Members → Option Data
in_field field tree = get_member (word field) tree

-- a table lacks the field
abbrev pub lacks : Field → Members → Bool
lacks field tree = is_none (in_field field tree)

-- the number that a table has in the field
abbrev pub number_in : Field → Members → Option ℕ
number_in field tree = option_and_then natural (in_field field tree)

-- the boolean that a table has in the field
abbrev pub flag_in : Field → Members → Option Bool
flag_in named tree = option_and_then as_bool (in_field named tree)

-- the so many numbers that a table has in the field
abbrev pub numbers_in : ℕ → Field → Members → Option (List ℕ)
numbers_in count field tree = option_and_then (naturals_in count) (in_field field tree)

-- the bytes in the array of two that a table has in the field
abbrev pub pair_in : Field → Members → Option (List ℕ)
pair_in named tree = option_and_then (bytes_in 2) (in_field named tree)

-- a table, and one without members where there is none
abbrev pub or_empty : Option Members → Members
or_empty (Some tree) = tree
or_empty None = no_members

-- the table that a value is
abbrev pub table_of : Data → Members
table_of d = or_empty (as_table d)

-- the table that a table has in the field
abbrev pub table_in : Field → Members → Members
table_in field tree = or_empty (option_and_then as_table (in_field field tree))

-- a list, and one without members where there is none
abbrev pub or_none : Option (List Data) → List Data
or_none (Some ds) = ds
or_none None = []

-- the members of the array that a table has in the field
abbrev pub members_in : Field → Members → List Data
members_in field tree = or_none (option_and_then members (in_field field tree))

-- the table has this number in the field
abbrev pub HasNumber : Field → Members → ℕ → Type 0
HasNumber field tree n = number_in field tree ≡ Some n

-- the table has a number below the limit in the field
abbrev pub HasBelow : ℕ → Field → Members → Type 0
HasBelow limit field tree = (n : ℕ) × (HasNumber field tree n × (n < limit))

-- the table has these numbers in the field
abbrev pub HasNumbers : Field → Members → List ℕ → Type 0
HasNumbers field tree ns = numbers_in (length ns) field tree ≡ Some ns

-- the table has this boolean in the field
abbrev pub HasFlag : Field → Members → Bool → Type 0
HasFlag named tree b = flag_in named tree ≡ Some b

-- the table lacks the field
abbrev pub LacksField : Field → Members → Type 0
LacksField named tree = in_field named tree ≡ None
