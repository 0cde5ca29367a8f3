-- What phases and the reasons of a halt are called.
use Rattle.std.specs.Prelude.{ℕ, true, ◌/◌, ◌%◌, List, ◌++◌, codes}
use Rattle.std.specs.Fmt.{decimal, digits}
use Rattle.model_undo.specs.declared.phase.Why.{Why}
use Rattle.model_undo.specs.declared.phase.Why.TheVariants as why
use Rattle.model_undo.specs.declared.phase.Phase.{Phase}
use Rattle.model_undo.specs.declared.phase.Phase.TheVariants as phase

-- a byte in two hexadecimal digits, in upper case
abbrev pub two_digits : ℕ → List ℕ
two_digits code = digits 16 true (code / 16) ++ digits 16 true (code % 16)

-- the name, and the code of a refusal
abbrev pub why_name : Why → List ℕ
why_name why.Stop = codes "Stop"
why_name (why.Refused code) = codes "Refused " ++ two_digits code
why_name why.NotRestorable = codes "NotRestorable"
why_name (why.GetRefused code) = codes "GetRefused " ++ two_digits code

-- the name, the step, the reason, the code
abbrev pub phase_name : Phase → List ℕ
phase_name phase.Fresh = codes "Fresh"
phase_name (phase.Getting step) = codes "Getting " ++ decimal step
phase_name (phase.Setting step) = codes "Setting " ++ decimal step
phase_name phase.Done = codes "Done"
phase_name (phase.Halted step why) = codes "Halted " ++ (decimal step ++ (codes " " ++ why_name why))
phase_name (phase.Unsettled step) = codes "Unsettled " ++ decimal step
phase_name (phase.Undoing step) = codes "Undoing " ++ decimal step
phase_name phase.Undone = codes "Undone"
phase_name (phase.UndoRefused step code) = codes "UndoRefused " ++ (decimal step ++ (codes " " ++ two_digits code))
