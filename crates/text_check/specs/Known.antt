-- The keys of a table: which its reader doesn't know, and which it doesn't use.
use Rattle.std.specs.Prelude.{ℕ, Bool, false, not, ◌&&◌, ◌||◌, List, [], ◌∷◌, is_some, if◌then◌else◌, codes}
use Rattle.std.specs.List.{list_any}
use Rattle.std.specs.Option.{option_map_or}
use Rattle.std.specs.Str.{bytes_eq}
use Rattle.toml.specs.Data.{Data, Members, no_members, member, as_table}
use Rattle.text_fields.specs.declared.field.Field.{Field}
use Rattle.text_fields.specs.declared.field.Field.TheVariants as field
use Rattle.text_fields.specs.declared.lan_field.LanField.TheVariants as lan
use Rattle.text_fields.specs.declared.row.Row.{Row}
use Rattle.text_fields.specs.Words.{word}
use Rattle.text_fields.specs.Ranges.{has_text}
use Rattle.text_fields.specs.Trees.{in_field, members_in}
use Rattle.text_board.specs.Faults.{has_sessions}
use Rattle.file_faults.specs.declared.group.Group.{Group}
use Rattle.file_faults.specs.declared.group.Group.TheVariants as group
use Rattle.file_faults.specs.Known.{known}

-- the keys of a table
abbrev pub keys_in : Members → List (List ℕ)
keys_in no_members = []
keys_in (member key value more) = key ∷ keys_in more

-- the key is the word of one of the fields
abbrev pub is_known : List Row → List ℕ → Bool
is_known rows key = list_any (λ row. bytes_eq (word row.0) key) rows

-- a table has a key that is the word of none
abbrev pub has_unknown : List Row → Members → Bool
has_unknown rows tree = list_any (λ key. not (is_known rows key)) (keys_in tree)

-- the step leaves its sensor's events as they are
abbrev pub leaves_events : Members → Bool
leaves_events tree = has_text field.Kind (codes "event-enable") tree && has_text field.Select (codes "leave") tree

-- the fields of a table that its reader doesn't use: those of sessions on a channel that has none, and those of events in a step that leaves them
abbrev pub unused : Group → Members → List Field
unused group.Channel tree = if has_sessions tree then [] else field.Access ∷ field.Limit ∷ field.Users ∷ []
unused group.Step tree = if leaves_events tree then field.Assert ∷ field.Deassert ∷ [] else []
unused _ tree = []

-- a table has one of these fields
abbrev pub has_one : List Field → Members → Bool
has_one fields tree = list_any (λ named. is_some (in_field named tree)) fields

-- something is told of a table of the group: it has a key that is unknown, or one that isn't used
abbrev pub is_told : Group → Members → Bool
is_told of tree = has_unknown (known of tree) tree || has_one (unused of tree) tree

-- something is told of the table that a value is
abbrev pub is_told_at : Group → Data → Bool
is_told_at of value = option_map_or (is_told of) (as_table value) false

-- something is told of one of the tables that a file has in an array
abbrev pub is_told_in : Group → Field → Members → Bool
is_told_in of array tree = list_any (is_told_at of) (members_in array tree)

-- something is told of one of the tables that a file has in one of these arrays
abbrev pub is_told_arrays : List (Group × Field) → Members → Bool
is_told_arrays arrays tree = list_any (λ array. is_told_in array.0 array.1 tree) arrays

-- something is told of `[device]`
abbrev pub is_told_device : Members → Bool
is_told_device tree = option_map_or (is_told_at group.Device) (in_field field.Device tree) false

-- something is told of a board file
abbrev pub is_told_board : Members → Bool
is_told_board tree =
    is_told group.Top tree || (is_told_device tree
    || (is_told_in group.Sensor field.Sensor tree || (is_told_in group.Channel field.Channel tree
    || (is_told_in group.Lan (field.Lan lan.Lan) tree
    || (is_told_in group.Attribute field.Attribute tree || (is_told_in group.State field.State tree
    || is_told_in group.Numeric field.Numeric tree))))))

-- something is told of a plan
abbrev pub is_told_plan : Members → Bool
is_told_plan tree = is_told group.Plan tree || is_told_in group.Step field.Step tree
