-- How a fault of a field is named: NAME FIELD.
use Rattle.std.specs.Prelude.{ℕ, List, ◌++◌, codes}
use Rattle.text_fields.specs.declared.fault.FieldFault.{FieldFault}
use Rattle.text_fields.specs.declared.fault.FieldFault.TheVariants as field
use Rattle.text_fields.specs.Words.{word}

-- a fault and the key of its field
abbrev pub field_fault_name : FieldFault → List ℕ
field_fault_name (field.Missing named) = codes "Missing " ++ word named
field_fault_name (field.WrongType named) = codes "WrongType " ++ word named
field_fault_name (field.Range named) = codes "Range " ++ word named
