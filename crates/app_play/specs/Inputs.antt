-- What three texts tell: a board, a plan, and events; or which of them is refused, and why.
use Rattle.std.specs.Prelude.{◌≡◌, ◌⊎◌, ℕ, List, ◌++◌, Result, Ok, Err, codes}
use Rattle.cfg_records.specs.declared.board_file.BoardFile.{BoardFile}
use Rattle.undo_plans.specs.declared.plan.Plan.{Plan}
use Rattle.text_board.specs.declared.fault.FileFault.TheVariants as of_file
use Rattle.plan_file.specs.declared.plan_fault.PlanFault.TheVariants as of_plan
use Rattle.text_board.specs.Holds.{ReadsText}
use Rattle.plan_file.specs.PlanHolds.{ReadsPlan}
use Rattle.text_board.specs.Names.{fault_name}
use Rattle.plan_file.specs.PlanNames.{plan_fault_name}
use Rattle.text_lines.specs.Schedule.{TextIsRead}
use Rattle.text_lines.specs.EventNames.{schedule_fault_name}
use Rattle.app_play.specs.declared.inputs.Inputs.{Inputs}
use Rattle.app_play.specs.declared.inputs.InputFault.{InputFault}
use Rattle.app_play.specs.declared.inputs.InputFault.TheVariants as fault

-- the text is a board file
abbrev pub IsBoard : List ℕ → Type 0
IsBoard text = (file : BoardFile) × ReadsText text (Ok file)

-- the text is a plan
abbrev pub IsPlan : List ℕ → Type 0
IsPlan text = (plan : Plan) × ReadsPlan text (Ok plan)

-- what the texts tell: all three, or why the first that is refused is; a reader may be refused memory
abbrev pub InputsAreRead : (board plan schedule : List ℕ) → Result Inputs InputFault → Type 0
InputsAreRead board plan schedule (Ok inputs) = ReadsText board (Ok inputs.file) × ReadsPlan plan (Ok inputs.plan) × TextIsRead schedule (Ok inputs.events)
InputsAreRead board plan schedule (Err (fault.Board why)) = (why ≡ of_file.Memory) ⊎ ReadsText board (Err why)
InputsAreRead board plan schedule (Err (fault.Plan why)) = IsBoard board × ((why ≡ of_plan.Memory) ⊎ ReadsPlan plan (Err why))
InputsAreRead board plan schedule (Err (fault.Schedule why)) = IsBoard board × IsPlan plan × TextIsRead schedule (Err why)

-- which text is refused, and why
abbrev pub input_fault_name : InputFault → List ℕ
input_fault_name (fault.Board why) = codes "board " ++ fault_name why
input_fault_name (fault.Plan why) = codes "plan " ++ plan_fault_name why
input_fault_name (fault.Schedule why) = codes "schedule " ++ schedule_fault_name why
