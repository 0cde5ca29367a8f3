-- The row of a field, in a table of fields.
use Rattle.std.specs.Prelude.{ℕ, Bool, true, false, ◌&&◌, nat_le, List, Option, Some, None}
use Rattle.std.specs.List.{find}
use Rattle.std.specs.Str.{bytes_eq}
use Rattle.text_fields.specs.declared.field.Field.{Field}
use Rattle.text_fields.specs.declared.row.Need.{Need}
use Rattle.text_fields.specs.declared.row.Need.TheVariants as need
use Rattle.text_fields.specs.declared.row.Row.{Row}
use Rattle.text_fields.specs.declared.row.Shape.{Shape}
use Rattle.text_fields.specs.declared.row.Shape.TheVariants as shape
use Rattle.text_fields.specs.Words.{word}

-- the row is of this field
abbrev pub is_of : Field → Row → Bool
is_of field row = bytes_eq (word row.0) (word field)

-- the field's row
abbrev pub row_of : Field → List Row → Option Row
row_of field rows = find (is_of field) rows

-- each item needs a field of this need
abbrev pub is_always : Need → Bool
is_always need.Always = true
is_always need.Never = false
is_always need.UnlessLeave = false
is_always need.WithoutValue = false
is_always need.WithBits = false
is_always need.WithoutLimit = false

-- each item needs the field
abbrev pub is_always_there : Option Row → Bool
is_always_there (Some row) = is_always row.2
is_always_there None = false

-- the shape of the field
abbrev pub shape_of : Option Row → Shape
shape_of (Some row) = row.1
shape_of None = shape.Flag

-- a number of this shape is at most this
abbrev pub is_up_to : ℕ → Shape → Bool
is_up_to limit (shape.Number least most) = nat_le most limit
is_up_to limit other = false

-- each item has a number of at most this in the field
abbrev pub is_number : ℕ → Option Row → Bool
is_number limit row = is_always_there row && is_up_to limit (shape_of row)

-- the least number of this shape
abbrev pub lowest : Shape → ℕ
lowest (shape.Number least most) = least
lowest other = 0

-- the greatest
abbrev pub highest : Shape → ℕ
highest (shape.Number least most) = most
highest other = 0

-- the least number of the field
abbrev pub least_of : Option Row → ℕ
least_of row = lowest (shape_of row)

-- the greatest
abbrev pub most_of : Option Row → ℕ
most_of row = highest (shape_of row)

-- a value of this shape is a natural number
abbrev pub is_natural_shape : Shape → Bool
is_natural_shape shape.Natural = true
is_natural_shape shape.UpperNatural = true
is_natural_shape shape.MostLength = true
is_natural_shape shape.Stepped = true
is_natural_shape other = false

-- each item has a natural number in the field
abbrev pub is_natural : Option Row → Bool
is_natural row = is_always_there row && is_natural_shape (shape_of row)

-- an item may have an array of tables in the field
abbrev pub is_array_shape : Shape → Bool
is_array_shape (shape.Tables most) = true
is_array_shape other = false

abbrev pub is_array : Option Row → Bool
is_array row = is_array_shape (shape_of row)

-- of so many at most
abbrev pub tables_in : Shape → ℕ
tables_in (shape.Tables most) = most
tables_in other = 0

abbrev pub most_tables : Option Row → ℕ
most_tables row = tables_in (shape_of row)
