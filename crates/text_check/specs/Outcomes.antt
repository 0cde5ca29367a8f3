-- What comes of looking at files.
use Rattle.std.specs.Prelude.{◌≡◌, ◌||◌, ℕ, Bool, true, false, List, Ok, Err, if◌then◌else◌}
use Rattle.std.specs.List.{list_any}
use Rattle.std.specs.Option.{option_map_or}
use Rattle.toml.specs.Data.{Members}
use Rattle.toml.specs.Parse.{parse_document}
use Rattle.cfg_records.specs.declared.board_file.BoardFile.{BoardFile}
use Rattle.undo_plans.specs.declared.plan.Plan.{Plan}
use Rattle.undo_plans.specs.declared.undo_list.UndoList.{UndoList}
use Rattle.text_lines.specs.declared.event.Event.{Event}
use Rattle.text_lines.specs.declared.schedule.ScheduleFault.TheVariants.{Line}
use Rattle.text_board.specs.declared.fault.FileFault.{FileFault}
use Rattle.plan_file.specs.declared.plan_fault.PlanFault.{PlanFault}
use Rattle.text_board.specs.Holds.{ReadsText}
use Rattle.plan_file.specs.PlanHolds.{ReadsPlan}
use Rattle.text_lines.specs.Schedule.{TextIsRead}
use Rattle.text_lines.specs.UndoText.{IsTextOf, IsFirstBad}
use Rattle.undo_plans.specs.KeptManager.{Kept}
use Rattle.text_journal.specs.JournalText.{IsTextOf as IsTextOfJournal, IsFirstBad as IsFirstBadOfJournal}
use Rattle.text_check.specs.declared.text_form.TextForm.{TextForm}
use Rattle.text_check.specs.declared.text_form.TextForm.TheVariants as looks
use Rattle.text_check.specs.declared.outcome.Outcome.{Outcome}
use Rattle.text_check.specs.declared.outcome.Outcome.TheVariants.{Fine, Told, Refused}
use Rattle.text_check.specs.Known.{is_told_board, is_told_plan}
use Rattle.text_check.specs.Unfit.{has_unfit}

-- a text is TOML, and something is told of its tree
abbrev pub tells : (Members → Bool) → List ℕ → Bool
tells is_told text = option_map_or is_told (parse_document text) false

-- what comes of a text: it has a fault and is refused; or it is read, and something is told of it or nothing
abbrev pub OutcomeOf : (Faulty Read : Type 0) → (is_told : Bool) → Outcome → Type 0
OutcomeOf Faulty Read is_told Refused = Faulty
OutcomeOf Faulty Read is_told Told = Read × (is_told ≡ true)
OutcomeOf Faulty Read is_told Fine = Read × (is_told ≡ false)

-- something is told of a board file that holds this board: of its keys, or of its sensor data records
abbrev pub tells_board : List ℕ → BoardFile → Bool
tells_board text file = tells is_told_board text || has_unfit file

-- what comes of a board file
abbrev pub IsBoardOutcome : List ℕ → Outcome → Type 0
IsBoardOutcome text Refused = (why : FileFault) × ReadsText text (Err why)
IsBoardOutcome text Told = (file : BoardFile) × ReadsText text (Ok file) × (tells_board text file ≡ true)
IsBoardOutcome text Fine = (file : BoardFile) × ReadsText text (Ok file) × (tells_board text file ≡ false)

-- what comes of a plan
abbrev pub IsPlanOutcome : List ℕ → Outcome → Type 0
IsPlanOutcome text = OutcomeOf ((why : PlanFault) × ReadsPlan text (Err why)) ((plan : Plan) × ReadsPlan text (Ok plan)) (tells is_told_plan text)

-- what comes of a schedule
abbrev pub IsScheduleOutcome : List ℕ → Outcome → Type 0
IsScheduleOutcome text = OutcomeOf ((line : ℕ) × TextIsRead text (Err (Line line))) ((events : List Event) × TextIsRead text (Ok events)) false

-- what comes of an undo text
abbrev pub IsUndoOutcome : List ℕ → Outcome → Type 0
IsUndoOutcome text = OutcomeOf ((line : ℕ) × IsFirstBad text line) ((list : UndoList) × IsTextOf text list) false

-- what comes of a journal
abbrev pub IsJournalOutcome : List ℕ → Outcome → Type 0
IsJournalOutcome text = OutcomeOf ((line : ℕ) × IsFirstBadOfJournal text line) ((kept : Kept) × IsTextOfJournal text kept) false

-- What comes of a text of this form. An empty one has no fault. Readings aren't read here, and are refused.
abbrev pub IsOutcomeBy : TextForm → List ℕ → Outcome → Type 0
IsOutcomeBy looks.Undo text = IsUndoOutcome text
IsOutcomeBy looks.Journal text = IsJournalOutcome text
IsOutcomeBy looks.Board text = IsBoardOutcome text
IsOutcomeBy looks.Plan text = IsPlanOutcome text
IsOutcomeBy looks.Readings text = λ outcome. outcome ≡ Refused
IsOutcomeBy looks.Schedule text = IsScheduleOutcome text
IsOutcomeBy looks.Empty text = OutcomeOf ⊥ (Unit {0}) false

-- ---- several files

-- the two are one
abbrev pub same_outcome : Outcome → Outcome → Bool
same_outcome Fine Fine = true
same_outcome Told Told = true
same_outcome Refused Refused = true
same_outcome _ _ = false

-- this came of one of the files
abbrev pub is_among : Outcome → List Outcome → Bool
is_among outcome outcomes = list_any (λ other. same_outcome other outcome) outcomes

-- what came of several files: one is refused, or else something is told of one
abbrev pub worst_of : List Outcome → Outcome
worst_of outcomes = if is_among Refused outcomes then Refused else (if is_among Told outcomes then Told else Fine)
