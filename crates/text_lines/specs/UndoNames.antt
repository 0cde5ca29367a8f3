-- How faults of an undo text are named.
use Rattle.std.specs.Prelude.{ℕ, List, ◌++◌, codes}
use Rattle.std.specs.Fmt.{decimal}
use Rattle.text_lines.specs.declared.undo_text.UndoFault.{UndoFault}
use Rattle.text_lines.specs.declared.undo_text.UndoFault.TheVariants as fault

-- a fault, and the number of its line
abbrev pub undo_fault_name : UndoFault → List ℕ
undo_fault_name fault.Memory = codes "Memory"
undo_fault_name (fault.Line line) = codes "Line " ++ decimal line
