-- The first fault of each table of a file.
use Rattle.std.specs.Prelude.{◌≡◌, List, [], ◌∷◌, map, take, Option, None, Some, option_and_then, option_map, if◌then◌else◌}
use Rattle.std.specs.List.{list_any, slice_get}
use Rattle.toml.specs.Data.{Members, as_table}
use Rattle.text_fields.specs.declared.field.Field.{Field}
use Rattle.text_fields.specs.declared.field.Field.TheVariants as field
use Rattle.text_fields.specs.declared.lan_field.LanField.TheVariants as lan
use Rattle.text_fields.specs.declared.row.Row.{Row}
use Rattle.text_fields.specs.Trees.{in_field, members_in, number_in, table_of}
use Rattle.text_fields.specs.Faults.{field_faults, first}
use Rattle.text_board.specs.Faults.{channel_rows, same_number, users_in}
use Rattle.text_board.specs.LanItems.{lan_rows, listed_in}
use Rattle.plan_file.specs.PlanFaults.{step_faults}
use Rattle.file_faults.specs.declared.group.Group.{Group}
use Rattle.file_faults.specs.declared.group.Group.TheVariants as group
use Rattle.file_faults.specs.declared.faults.TableFault.{TableFault}
use Rattle.file_faults.specs.declared.faults.TableFault.TheVariants as fault
use Rattle.file_faults.specs.declared.faults.Placed.{Placed}
use Rattle.file_faults.specs.Known.{known}

-- the fields that the reader of a file asks of one of its tables
abbrev pub rows_in : Group → (file tree : Members) → List Row
rows_in group.Channel file tree = channel_rows (users_in file) tree
rows_in group.Lan file tree = lan_rows (listed_in file)
rows_in of file tree = known of tree

-- a table, where there is one, as a list
abbrev pub only : Option Members → List Members
only (Some tree) = tree ∷ []
only None = []

-- the tables of a group that a file has
abbrev pub tables_of : Group → (file : Members) → List Members
tables_of group.Top file = file ∷ []
tables_of group.Plan file = file ∷ []
tables_of group.Device file = only (option_and_then as_table (in_field field.Device file))
tables_of group.Sensor file = map table_of (members_in field.Sensor file)
tables_of group.Channel file = map table_of (members_in field.Channel file)
tables_of group.Lan file = map table_of (members_in (field.Lan lan.Lan) file)
tables_of group.Attribute file = map table_of (members_in field.Attribute file)
tables_of group.State file = map table_of (members_in field.State file)
tables_of group.Numeric file = map table_of (members_in field.Numeric file)
tables_of group.Step file = map table_of (members_in field.Step file)

-- the field that has the number of an item, which no two have
abbrev pub number_of : Group → Option Field
number_of group.Sensor = Some field.Number
number_of group.Channel = Some field.Number
number_of group.Lan = Some field.Channel
number_of group.State = Some field.Id
number_of group.Numeric = Some field.Id
number_of _ = None

-- that one of the tables before has the number of this one in the field
abbrev pub twice_in : (before : List Members) → Members → Field → Option TableFault
twice_in before tree named =
    if list_any (λ other. same_number (number_in named other) (number_in named tree)) before then Some (fault.Twice named) else None

-- that one of the tables of the group before has the number of this one
abbrev pub twice : Group → (before : List Members) → Members → Option TableFault
twice of before tree = option_and_then (twice_in before tree) (number_of of)

-- the fault of a field, and where there is none another
abbrev pub or_else : Option TableFault → Option TableFault → Option TableFault
or_else (Some why) other = Some why
or_else None other = other

-- the first fault of a table: of its fields, and where they have none that its number is taken
abbrev pub table_fault : Group → (file : Members) → (before : List Members) → Members → Option TableFault
table_fault of file before tree = or_else (option_map fault.Field (first (field_faults (rows_in of file tree) tree))) (twice of before tree)

-- the first fault of a table, of a step what its reader finds first
abbrev pub fault_of : Group → (file : Members) → (before : List Members) → Members → Option TableFault
fault_of group.Step file before tree = option_map fault.Step (first (step_faults tree))
fault_of of file before tree = table_fault of file before tree

-- the fault is the first of the file's table that it names
pub record IsFirstIn (file : Members) (placed : Placed) : Type 0 where
  pub tree : Members
  pub there : slice_get (tables_of placed.group file) placed.place ≡ Some tree
  pub first : fault_of placed.group file (take placed.place (tables_of placed.group file)) tree ≡ Some placed.fault
