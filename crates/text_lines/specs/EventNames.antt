-- How faults of a schedule are named.
use Rattle.std.specs.Prelude.{ℕ, List, ◌++◌, codes}
use Rattle.std.specs.Fmt.{decimal}
use Rattle.text_lines.specs.declared.schedule.ScheduleFault.{ScheduleFault}
use Rattle.text_lines.specs.declared.schedule.ScheduleFault.TheVariants as fault

-- a fault, and the number of its line
abbrev pub schedule_fault_name : ScheduleFault → List ℕ
schedule_fault_name fault.Memory = codes "Memory"
schedule_fault_name (fault.Line line) = codes "Line " ++ decimal line
