-- Which files are refused strictly.
use Rattle.std.specs.Prelude.{◌≡◌, ◌⊎◌, ℕ, ◌==◌, ◌&&◌, ◌||◌, Bool, true, false, List, length, Option, None, Some}
use Rattle.undo_plans.specs.declared.plan.Plan.{Plan}
use Rattle.app_base.specs.declared.console.Stream.TheVariants.{Error}
use Rattle.app_base.specs.declared.report.Report.{Report}
use Rattle.app_base.specs.declared.status.Status.TheVariants.{RefusedFile}
use Rattle.app_base.specs.Ending.{Saying}
use Rattle.text_check.specs.Known.{is_told_board, is_told_plan}
use Rattle.text_check.specs.Outcomes.{tells}

-- a board file has a key that is unknown or not used
abbrev pub is_loose_board : (text : List ℕ) → Bool
is_loose_board text = tells is_told_board text

-- a plan has a key that is unknown or not used, or no step
abbrev pub is_loose_plan : (text : List ℕ) → Plan → Bool
is_loose_plan text plan = (length plan.steps == 0) || tells is_told_plan text

-- a run is strict, and a board file or a plan is so
abbrev pub is_loose : (strict : Bool) → (board text : List ℕ) → Plan → Bool
is_loose strict board text plan = strict && (is_loose_board board || is_loose_plan text plan)

-- There is a refusal exactly where this holds: a report on standard error, with the status of a refused file.
abbrev pub RefusedIf : Bool → Option Report → Type 0
RefusedIf holds None = holds ≡ false
RefusedIf holds (Some report) = (holds ≡ true) × (report.stream ≡ Error) × (report.status ≡ RefusedFile)

-- What a run says of files that it reads: that they are refused, where they are loose and it is strict, and else this.
abbrev pub SaysUnless : (loose : Bool) → Saying → Saying
SaysUnless loose says stream text status = ((loose ≡ true) × (stream ≡ Error) × (status ≡ RefusedFile)) ⊎ ((loose ≡ false) × says stream text status)
