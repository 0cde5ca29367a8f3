-- What a run says of plans that it checks against a board.
use Rattle.std.specs.Prelude.{◌≡◌, ◌⊎◌, ℕ, Bool, true, false, List, [], ◌∷◌, ◌++◌, Ok, Err, if◌then◌else◌}
use Rattle.std.specs.List.{list_all}
use Rattle.record_base.specs.declared.op.Op.{Op}
use Rattle.cfg_records.specs.declared.board_file.BoardFile.{BoardFile}
use Rattle.undo_plans.specs.declared.plan.Plan.{Plan}
use Rattle.bmc_board.specs.State.{opened}
use Rattle.report_words.specs.BoardNames.{names_of}
use Rattle.file_words.specs.Escapes.{escaped}
use Rattle.text_board.specs.declared.fault.FileFault.{FileFault}
use Rattle.text_board.specs.Holds.{ReadsText}
use Rattle.plan_file.specs.declared.plan_fault.PlanFault.{PlanFault}
use Rattle.plan_file.specs.PlanHolds.{ReadsPlan}
use Rattle.bmc_lab.specs.declared.finding.Finding.{Finding}
use Rattle.bmc_lab.specs.declared.finding.Finding.TheVariants.{GetRefused, NotRestorable, Refused as SetRefused, Done}
use Rattle.bmc_lab.specs.Tries.{MeetsInTurn}
use Rattle.bmc_lab.specs.FindingWords.{finding_lines}
use Rattle.text_check.specs.declared.outcome.Outcome.{Outcome}
use Rattle.text_check.specs.declared.outcome.Outcome.TheVariants.{Fine, Told, Refused}
use Rattle.text_check.specs.Known.{is_told_plan}
use Rattle.text_check.specs.Outcomes.{tells, worst_of}
use Rattle.app_base.specs.declared.console.Stream.TheVariants.{Output}
use Rattle.app_base.specs.declared.files.UnreadFile.TheVariants.{NoText}
use Rattle.app_base.specs.declared.status.Status.{Status}
use Rattle.app_base.specs.declared.status.Status.TheVariants.{RefusedFile}
use Rattle.app_base.specs.Ending.{Saying}
use Rattle.app_base.specs.Files.{Readings}
use Rattle.app_bmclab.specs.Checks.{status_of}

-- the board carries the step out, and it could be taken back
abbrev pub goes : Finding → Bool
goes (Done shown) = true
goes (GetRefused code) = false
goes NotRestorable = false
goes (SetRefused code) = false

-- what comes of a plan of whose keys something is told or nothing, and whose steps meet these
abbrev pub outcome_with : (is_told : Bool) → List Finding → Outcome
outcome_with is_told findings = if list_all goes findings then (if is_told then Told else Fine) else Refused

-- What comes of these steps of a plan's text on a board of this file, and what is said of them in a file of this name: behind all else a line for
-- each, of what it meets in its turn, the first on a fresh board, with the names that the file gives.
pub record PlanAgainst (file : BoardFile) (name text : List ℕ) (steps : List Op) (outcome : Outcome) (said : List ℕ) : Type 0 where
  pub findings : List Finding
  pub met : MeetsInTurn file steps (opened file) findings
  pub front : List ℕ
  pub lines : said ≡ front ++ finding_lines (names_of file) name 0 steps findings
  pub comes : outcome ≡ outcome_with (tells is_told_plan text) findings

-- what comes of a text, and what is said of it: it is no plan and is refused, or it is one
abbrev pub TextAgainst : BoardFile → (name text : List ℕ) → Outcome → (said : List ℕ) → Type 0
TextAgainst file name text outcome said =
    (((why : PlanFault) × ReadsPlan text (Err why)) × (outcome ≡ Refused))
    ⊎ ((plan : Plan) × ReadsPlan text (Ok plan) × PlanAgainst file name text plan.steps outcome said)

-- what comes of the file that a word names; one that gives no text is refused
abbrev pub FileAgainst : Readings → BoardFile → (word : List ℕ) → Outcome → (said : List ℕ) → Type 0
FileAgainst gives file word outcome said =
    ((text : List ℕ) × gives word (Ok text) × TextAgainst file (escaped word) text outcome said) ⊎ (gives word (Err NoText) × (outcome ≡ Refused))

-- so it is on a board of this text
abbrev pub OnBoardOf : Readings → (board word : List ℕ) → Outcome → (said : List ℕ) → Type 0
OnBoardOf gives board word outcome said = (file : BoardFile) × ReadsText board (Ok file) × FileAgainst gives file word outcome said

-- what comes of the files that words name, each for itself, and what is said of them, one behind another
abbrev pub TellsEach : Readings → (board : List ℕ) → (words : List (List ℕ)) → List Outcome → (said : List ℕ) → Type 0
TellsEach gives board [] [] said = said ≡ []
TellsEach gives board (word ∷ words) (outcome ∷ outcomes) said =
    (first : List ℕ) × (rest : List ℕ) × OnBoardOf gives board word outcome first × TellsEach gives board words outcomes rest × (said ≡ first ++ rest)
TellsEach gives board _ _ said = ⊥

-- what comes of the files that words name on the board of this text, what is said, and how a run ends: what is told of each, and by the worst
-- that came of one; or the text holds no board and is refused
abbrev pub EndsAgainst : Readings → (board : List ℕ) → (words : List (List ℕ)) → (said : List ℕ) → Status → Type 0
EndsAgainst gives board words said status =
    ((outcomes : List Outcome) × TellsEach gives board words outcomes said × (status ≡ status_of (worst_of outcomes)))
    ⊎ (((why : FileFault) × ReadsText board (Err why)) × (status ≡ RefusedFile))

-- so it is on the board of the file that a word names; one that gives no text is refused
abbrev pub EndsAgainstFile : Readings → (board : List ℕ) → (words : List (List ℕ)) → (said : List ℕ) → Status → Type 0
EndsAgainstFile gives board words said status =
    ((file : List ℕ) × gives board (Ok file) × EndsAgainst gives file words said status) ⊎ (gives board (Err NoText) × (status ≡ RefusedFile))

-- What a run says of the files that words name, against the board of the file that a word names: all of it on standard output.
abbrev pub SaysOfAgainst : Readings → (board : List ℕ) → (words : List (List ℕ)) → Saying
SaysOfAgainst gives board words stream text status = (stream ≡ Output) × EndsAgainstFile gives board words text status
