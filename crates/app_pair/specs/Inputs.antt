-- What two texts tell: a board, and a plan; or which of them is refused, and why.
use Rattle.std.specs.Prelude.{◌≡◌, ◌⊎◌, ℕ, List, Bool, true, false, Result, Ok, Err}
use Rattle.text_board.specs.declared.fault.FileFault.TheVariants as of_file
use Rattle.text_board.specs.Holds.{ReadsText}
use Rattle.plan_file.specs.declared.plan_fault.PlanFault.TheVariants as of_plan
use Rattle.plan_file.specs.PlanHolds.{ReadsPlan}
use Rattle.app_base.specs.Report.{board_line}
use Rattle.app_run.specs.Lines.{plan_line}
use Rattle.app_serve.specs.Run.{IsBoard}
use Rattle.app_pair.specs.declared.inputs.Inputs.{Inputs}
use Rattle.app_pair.specs.declared.inputs.InputFault.{InputFault}
use Rattle.app_pair.specs.declared.inputs.InputFault.TheVariants as fault

-- what the texts tell: both, or why the first that is refused is; a reader may be refused memory
abbrev pub InputsAreRead : (board plan : List ℕ) → Result Inputs InputFault → Type 0
InputsAreRead board plan (Ok inputs) = ReadsText board (Ok inputs.file) × ReadsPlan plan (Ok inputs.plan)
InputsAreRead board plan (Err (fault.Board why)) = (why ≡ of_file.Memory) ⊎ ReadsText board (Err why)
InputsAreRead board plan (Err (fault.Plan why)) = IsBoard board × ((why ≡ of_plan.Memory) ⊎ ReadsPlan plan (Err why))

-- a text wasn't read for want of memory
abbrev pub is_memory : InputFault → Bool
is_memory (fault.Board of_file.Memory) = true
is_memory (fault.Plan of_plan.Memory) = true
is_memory _ = false

-- what is said of a text that is refused: which of the two it is, and why
abbrev pub refusal_line : InputFault → List ℕ
refusal_line (fault.Board why) = board_line why
refusal_line (fault.Plan why) = plan_line why
