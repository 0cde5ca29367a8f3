-- How faults of a text of readings are named.
use Rattle.std.specs.Prelude.{ℕ, List, ◌++◌, codes}
use Rattle.std.specs.Fmt.{decimal}
use Rattle.app_serve.specs.declared.readings_text.ReadingsFault.{ReadingsFault}
use Rattle.app_serve.specs.declared.readings_text.ReadingsFault.TheVariants as fault

-- a fault, and the number of its line
abbrev pub readings_fault_name : ReadingsFault → List ℕ
readings_fault_name fault.Memory = codes "Memory"
readings_fault_name (fault.Line line) = codes "Line " ++ decimal line
