-- How faults of a journal's text are named.
use Rattle.std.specs.Prelude.{ℕ, List, ◌++◌, codes}
use Rattle.std.specs.Fmt.{decimal}
use Rattle.text_journal.specs.declared.reading.JournalTextFault.{JournalTextFault}
use Rattle.text_journal.specs.declared.reading.JournalTextFault.TheVariants as fault

-- a fault, and the number of its line
abbrev pub fault_name : JournalTextFault → List ℕ
fault_name fault.Memory = codes "Memory"
fault_name (fault.Line line) = codes "Line " ++ decimal line
