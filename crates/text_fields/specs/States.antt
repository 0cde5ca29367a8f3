-- State effecters in plans.
use Rattle.std.specs.Prelude.{◌==◌, ℤ, pos, negsuc, nat_lt, if◌then◌else◌, Option, Some, None, option_and_then}
use Rattle.toml.specs.Data.{Data, as_integer}
use Rattle.record_base.specs.declared.field_changes.FieldChange.{FieldChange}

-- what an integer says of a field: the state that it is set to (01h and the state, in a request of DSP0248), or -1 where it is left (00h)
abbrev pub change_at : ℤ → Option FieldChange
change_at (pos n) = if nat_lt n 256 then Some (record { choice = 1; state = n }) else None
change_at (negsuc n) = if n == 0 then Some (record { choice = 0; state = 0 }) else None

-- what a value says of a field
abbrev pub change_of : Data → Option FieldChange
change_of d = option_and_then change_at (as_integer d)
