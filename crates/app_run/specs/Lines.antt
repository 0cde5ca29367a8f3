-- The lines of `bmcnet run` and `bmcnet undo`.
use Rattle.std.specs.Prelude.{List, ℕ, ◌++◌, codes}
use Rattle.text_lines.specs.Cuts.{ended}
use Rattle.two_wire.specs.Buses.{bus_name}
use Rattle.model_undo.specs.declared.phase.Phase.{Phase}
use Rattle.model_undo.specs.PhaseNames.{phase_name}
use Rattle.plan_file.specs.declared.plan_fault.PlanFault.{PlanFault}
use Rattle.plan_file.specs.PlanNames.{plan_fault_name}
use Rattle.text_lines.specs.declared.undo_text.UndoFault.{UndoFault}
use Rattle.text_lines.specs.UndoNames.{undo_fault_name}
use Rattle.app_run.specs.declared.greeting.Unanswered.{Unanswered}
use Rattle.app_run.specs.Greeted.{answer_word}

-- the manager's phase
abbrev pub phase_line : Phase → List ℕ
phase_line phase = ended (codes "phase " ++ phase_name phase)

-- what is said of a plan that is refused
abbrev pub plan_line : PlanFault → List ℕ
plan_line why = ended (codes "plan " ++ plan_fault_name why)

-- what is said of an undo text that is refused
abbrev pub undo_line : UndoFault → List ℕ
undo_line why = ended (codes "undo " ++ undo_fault_name why)

-- what is said of one that has other names
abbrev pub others_line : List ℕ
others_line = ended (codes "undo OtherNames")

-- what is said of a greeting that wasn't answered: `no answer on ipmb`, or `busy on smbus`
abbrev pub unanswered_line : Unanswered → List ℕ
unanswered_line why = ended (answer_word why.busy ++ (codes " on " ++ bus_name why.bus))

-- what is said of a journal that was put aside: the word that names it now
abbrev pub aside_line : (word : List ℕ) → List ℕ
aside_line word = ended (codes "aside " ++ word)
