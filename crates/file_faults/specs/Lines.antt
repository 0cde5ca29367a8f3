-- The line of a file that is told of a key.
use Rattle.std.specs.Prelude.{◌⊎◌, ℕ, List, Option, None, Some}
use Rattle.text_fields.specs.declared.field.Field.{Field}
use Rattle.text_fields.specs.declared.field.Field.TheVariants as field
use Rattle.text_fields.specs.declared.lan_field.LanField.TheVariants as lan
use Rattle.text_fields.specs.Words.{word}
use Rattle.std.specs.Borrow.{Bor}
use Rattle.file_faults.specs.Places.{StandsIn, HeadStandsIn}
use Rattle.file_faults.specs.declared.group.Group.{Group}
use Rattle.file_faults.specs.declared.group.Group.TheVariants as group

-- the key that has the table or the array of a group; a file's own table has none
abbrev pub array_of : Group → Option Field
array_of group.Top = None
array_of group.Plan = None
array_of group.Device = Some field.Device
array_of group.Sensor = Some field.Sensor
array_of group.Channel = Some field.Channel
array_of group.Lan = Some (field.Lan lan.Lan)
array_of group.Attribute = Some field.Attribute
array_of group.State = Some field.State
array_of group.Numeric = Some field.Numeric
array_of group.Step = Some field.Step

-- in the line of the file stands the key, or that of the table or the array, where there is one
abbrev pub IsLineIn : (file : List ℕ) → Option (Bor (List ℕ)) → (key : List ℕ) → (line : ℕ) → Type 0
IsLineIn file table key line = StandsIn file key line ⊎ HeadStandsIn file table line

-- in the line of the file stands the key of a table or an array
abbrev pub IsHeadLine : (file : List ℕ) → Option Field → (line : ℕ) → Type 0
IsHeadLine file (Some named) line = StandsIn file (word named) line
IsHeadLine file None line = ⊥

-- in the line of the file stands the key of a table of the group, or the key that has the table or its array
abbrev pub IsLineOf : (file : List ℕ) → Group → (key : List ℕ) → (line : ℕ) → Type 0
IsLineOf file of key line = StandsIn file key line ⊎ IsHeadLine file (array_of of) line
