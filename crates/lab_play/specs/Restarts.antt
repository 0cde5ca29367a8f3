-- A play in which the manager's process ends, as often as you like, and the manager is made again each time.
use Rattle.std.specs.Prelude.{◌≡◌, ◌⊎◌, ℕ, ◌+◌, ◌==◌, Bool, true, false, List, [], ◌∷◌, ◌++◌, length, Option, Some, None}
use Rattle.std.specs.List.{list_any}
use Rattle.record_base.specs.declared.message.Asked.{Asked}
use Rattle.record_base.specs.declared.op.Op.{Op}
use Rattle.cfg_records.specs.declared.board_file.BoardFile.{BoardFile}
use Rattle.model_bus.specs.Repeat.{In}
use Rattle.model_bus.specs.Answered.{Answered}
use Rattle.model_undo.specs.declared.call.Call.TheVariants.{Stop}
use Rattle.model_undo.specs.declared.phase.Phase.{Phase}
use Rattle.model_undo.specs.declared.phase.Phase.TheVariants.{Undone}
use Rattle.model_undo.specs.declared.phase.Phase.TheVariants as phase
use Rattle.model_undo.specs.Plan.{IsAfter, PhaseMeans}
use Rattle.model_undo.specs.Machine.{phase_of}
use Rattle.model_undo.specs.Headline.{ShowsSame, PartsShowSame}
use Rattle.model_lab.specs.Lab.{Lab as LabModel, opening}
use Rattle.model_lab.specs.Meaning.{lab_names}
use Rattle.model_lab.specs.Played.{plans, Told, Ending, Whole, Stops, fault_at, happens, told_of}
use Rattle.model_headline.specs.Answers.{AnswerGiven, CausedBy}
use Rattle.model_headline.specs.Tied.{own_family}
use Rattle.model_headline.specs.Plays.{KeepsPremise}
use Rattle.text_lines.specs.declared.event.Event.{Event}
use Rattle.text_lines.specs.declared.event.Event.TheVariants.{Calls}
use Rattle.lab_run.specs.Makes.{restarts}

-- what happens in such a play: an event of the schedule, or that the manager is made again
pub data Turn : Type 0 where
  Takes : Event → Turn
  Remakes : Turn

-- this place is one of those
abbrev pub is_among : (places : List ℕ) → (place : ℕ) → Bool
is_among places place = list_any (λ p. p == place) places

-- the manager is made again, where it holds
abbrev pub remade_if : Bool → List Turn
remade_if true = Remakes ∷ []
remade_if false = []

-- an event of this place, and behind it the restart, if the place is one of those
abbrev pub turns_at : (places : List ℕ) → (place : ℕ) → Event → List Turn
turns_at places place event = Takes event ∷ remade_if (is_among places place)

-- the events, of which the first has this place, and behind each whose place is one of those a restart
abbrev pub turns_from : (places : List ℕ) → (place : ℕ) → List Event → List Turn
turns_from places place [] = []
turns_from places place (event ∷ events) = turns_at places place event ++ turns_from places (place + 1) events

-- so from the schedule's first event on, whose place is 1
abbrev pub turns_of : (places : List ℕ) → List Event → List Turn
turns_of places events = turns_from places 1 events

module _ (file : BoardFile) where
  -- the lab after a turn, and after many
  abbrev pub does : Turn → LabModel plans → LabModel plans
  does (Takes event) lab = happens file event lab
  does Remakes lab = restarts file lab

  abbrev pub after : List Turn → LabModel plans → LabModel plans
  after [] lab = lab
  after (turn ∷ turns) lab = after turns (does turn lab)

  -- an event has no fault, where it happens; the manager may be made again at any moment
  abbrev pub IsTaken : LabModel plans → Turn → Type 0
  IsTaken lab (Takes event) = fault_at file lab event ≡ None
  IsTaken lab Remakes = Unit {0}

  abbrev pub AreTaken : List Turn → LabModel plans → Type 0
  AreTaken [] lab = Unit {0}
  AreTaken (turn ∷ turns) lab = IsTaken lab turn × AreTaken turns (does turn lab)

  -- no event brings the port a packet that joins one which has waited too long, where it happens
  abbrev pub Keeps : LabModel plans → Turn → Type 0
  Keeps lab (Takes event) = KeepsPremise file lab event
  Keeps lab Remakes = Unit {0}

  abbrev pub AllKeep : List Turn → LabModel plans → Type 0
  AllKeep [] lab = Unit {0}
  AllKeep (turn ∷ turns) lab = Keeps lab turn × AllKeep turns (does turn lab)

module _ (file : BoardFile) (places : List ℕ) where
  -- the play tells this of the premise on packets: every event keeps it, or the event of this place, counted from 1, is the first that breaks it
  abbrev pub TellsKept : List Event → LabModel plans → Option ℕ → Type 0
  TellsKept events lab None = AllKeep file (turns_of places events) lab
  TellsKept events lab (Some place) =
      (before : List Event) × (rest : List Event) × (event : Event) × (events ≡ before ++ event ∷ rest) × (place ≡ length before + 1)
      × AllKeep file (turns_of places before) lab × (¬ KeepsPremise file (after file (turns_of places before) lab) event)

  -- The play takes the events up to the first that has a fault, behind each of those places makes the manager again, and tells of the lab after
  -- the turns before that.
  abbrev pub PlaysTurns : LabModel plans → List Event → Ending → Type 0
  PlaysTurns first events (Whole told) = AreTaken file (turns_of places events) first × (told ≡ told_of file first (after file (turns_of places events) first))
  PlaysTurns first events (Stops fault place told) =
      (before : List Event) × (rest : List Event) × (event : Event) × (events ≡ before ++ event ∷ rest) × (place ≡ length before + 1) × AreTaken file (turns_of places before) first
      × (fault_at file (after file (turns_of places before) first) event ≡ Some fault) × (told ≡ told_of file first (after file (turns_of places before) first))

module _ (file : BoardFile) (plan : List Op) (retries : ℕ) where
  -- the lab as it begins, and after turns
  abbrev pub lab_after : List Turn → LabModel plans
  lab_after turns = after file turns (opening plans file lab_names plan retries)

  abbrev pub phase_after : List Turn → Phase
  phase_after turns = phase_of plans.words (lab_after turns).manager.machine

  -- Once the plan is undone, and after all that comes then, every record is what it was at the start. Each Get, whoever asks it, is answered with
  -- the same code and shows the same configuration. So does a Get of the manager in several requests, each answered with 00h.
  abbrev pub UndoneForGood : List Turn → Type 0
  UndoneForGood taken = (turns later rest : List Turn) → taken ≡ (turns ++ later) ++ rest → phase_after turns ≡ Undone
      → let begun = (lab_after []).board in let now = (lab_after (turns ++ later)).board in
      (now.records ≡ begun.records) × ShowsSame (own_family file lab_names) begun now × PartsShowSame (own_family file lab_names) begun now

  -- at an event that was taken the board answered the manager so, at the records after the plan's first `step` steps
  pub record GaveIn (taken : List Turn) (step : ℕ) (asked : Asked) (answered : Answered) : Type 0 where
    pub before : List Turn
    pub event : Event
    pub later : List Turn
    pub all : taken ≡ before ++ (Takes event) ∷ later
    pub answers : AnswerGiven file lab_names (lab_after before) (happens file event (lab_after before)) asked answered
    pub at : IsAfter (own_family file lab_names) plan (lab_after []).board.records step (lab_after before).board.records

  -- the manager was called to stop, or it was made again
  abbrev pub MakesStop : List Turn → Type 0
  MakesStop taken = In (Takes (Calls Stop)) taken ⊎ In Remakes taken

  -- The phase says what the records are, so an undone plan leaves those of the start. So it does at each turn from the one on at which the plan
  -- was undone. A plan that halted has its cause among the turns: the answer that was given there, a call of `stop`, or a restart.
  pub record ToldStands (taken : List Turn) (told : Told) : Type 0 where
    pub stands : PhaseMeans (own_family file lab_names) plan told.start told.phase told.records
    pub undone : told.phase ≡ Undone → told.records ≡ told.start
    pub for_good : UndoneForGood taken
    pub halts : CausedBy file lab_names (GaveIn taken) (MakesStop taken) plan told.phase

  -- what every play tells in which the manager is made again: it stands where no packet joins one that has waited too long
  abbrev pub RestartedPlaysStand : Type 0
  RestartedPlaysStand = (turns : List Turn) → AreTaken file turns (lab_after []) → AllKeep file turns (lab_after []) → ToldStands turns (told_of file (lab_after []) (lab_after turns))

-- ---- the phase

-- the phase of a manager that is made again of one in this phase: an open request is unsettled, and else nothing changes
abbrev pub remade_phase : Phase → Phase
remade_phase (phase.Getting step) = phase.Unsettled step
remade_phase (phase.Setting step) = phase.Unsettled step
remade_phase (phase.Undoing step) = phase.Unsettled step
remade_phase other = other

-- so it is in every lab
abbrev pub RestartsUnsettle : Type 0
RestartsUnsettle = (file : BoardFile) (lab : LabModel plans) → phase_of plans.words (restarts file lab).manager.machine ≡ remade_phase (phase_of plans.words lab.manager.machine)
