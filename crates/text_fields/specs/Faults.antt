-- The faults of the fields of a table of a file, in the order in which they count.
use Rattle.std.specs.Prelude.{Bool, true, false, not, ◌&&◌, ◌||◌, List, [], ◌∷◌, ◌++◌, map, filter, Option, Some, None, is_some, is_none, codes}
use Rattle.toml.specs.Data.{Members}
use Rattle.text_fields.specs.declared.field.Field.TheVariants as field
use Rattle.text_fields.specs.declared.row.Need.{Need}
use Rattle.text_fields.specs.declared.row.Need.TheVariants as need
use Rattle.text_fields.specs.declared.row.Row.{Row}
use Rattle.text_fields.specs.declared.fault.FieldFault.{FieldFault}
use Rattle.text_fields.specs.declared.fault.FieldFault.TheVariants as fault
use Rattle.text_fields.specs.Trees.{in_field, lacks}
use Rattle.text_fields.specs.Ranges.{passes, has_text, has_type, is_in_range}

-- the item needs the field
abbrev pub is_needed : Members → Need → Bool
is_needed tree need.Always = true
is_needed tree need.Never = false
is_needed tree need.UnlessLeave = not (has_text field.Select (codes "leave") tree)
is_needed tree need.WithoutValue = lacks field.Text tree && lacks field.Number tree
is_needed tree need.WithBits = is_some (in_field field.Callback tree) || (is_some (in_field field.Link tree) || is_some (in_field field.Messaging tree))
is_needed tree need.WithoutLimit = lacks field.Limit tree

-- the item lacks a field that it needs
abbrev pub is_missing : Members → Row → Bool
is_missing tree row = is_needed tree row.2 && is_none (in_field row.0 tree)

-- the item has a value of another type in the field
abbrev pub is_mistyped : Members → Row → Bool
is_mistyped tree row = passes (λ d. not (has_type row.1 d)) (in_field row.0 tree)

-- the item has a value in the field that it can't have
abbrev pub is_beyond : Members → Row → Bool
is_beyond tree row = passes (λ d. not (is_in_range tree row.1 d)) (in_field row.0 tree)

-- the faults of an item's fields: the missing ones, those of another type, those out of their ranges, each in the table's order
unfoldable pub field_faults : List Row → Members → List FieldFault
field_faults rows tree =
    map (λ row. fault.Missing row.0) (filter (is_missing tree) rows)
    ++ (map (λ row. fault.WrongType row.0) (filter (is_mistyped tree) rows)
    ++ map (λ row. fault.Range row.0) (filter (is_beyond tree) rows))

-- the fault that counts
abbrev pub first : {A : Type 0} → List A → Option A
first [] = None
first (x ∷ xs) = Some x
