-- What a play tells, where no packet that it delivers joins a packet that has waited too long.
use Rattle.std.specs.Prelude.{◌≡◌, ℕ, ◌+◌, ◌-◌, List, [], ◌∷◌, ◌++◌, length, take, Option, Some, None}
use Rattle.record_base.specs.declared.message.Asked.{Asked}
use Rattle.record_base.specs.declared.op.Op.{Op}
use Rattle.cfg_records.specs.declared.board_file.BoardFile.{BoardFile}
use Rattle.model_bus.specs.Repeat.{In}
use Rattle.model_bus.specs.Answered.{Answered}
use Rattle.model_undo.specs.declared.phase.Phase.{Phase}
use Rattle.model_undo.specs.declared.phase.Phase.TheVariants.{Undone}
use Rattle.model_undo.specs.Plan.{IsAfter, PhaseMeans}
use Rattle.model_undo.specs.Machine.{phase_of}
use Rattle.model_undo.specs.Headline.{ShowsSame, PartsShowSame}
use Rattle.model_lab.specs.Lab.{Lab, opening}
use Rattle.model_lab.specs.Own.{IsOwn}
use Rattle.model_lab.specs.Joins.{IsJoinLive}
use Rattle.model_undo.specs.declared.call.Call.TheVariants.{Stop}
use Rattle.text_lines.specs.declared.event.Event.{Event}
use Rattle.text_lines.specs.declared.event.Event.TheVariants.{Calls}
use Rattle.model_lab.specs.Meaning.{lab_names, event_of}
use Rattle.model_lab.specs.Played.{plans, Told, Ending, Whole, Stops, happens, after, IsPlayed}
use Rattle.model_headline.specs.Answers.{AnswerGiven, CausedBy}
use Rattle.model_headline.specs.Tied.{own_family}
use Rattle.model_headline.specs.Claim.{ours, ShowsSameParts}

-- the events that a play took: all, or the events before the first that has a fault
abbrev pub taken_by : List Event → Ending → List Event
taken_by events (Whole told) = events
taken_by events (Stops fault place told) = take (place - 1) events

-- what a play tells, however it ends
abbrev pub told_by : Ending → Told
told_by (Whole told) = told
told_by (Stops fault place told) = told

module _ (file : BoardFile) where
  -- the event brings the port no packet that joins a packet which waited while eight or more newer requests were begun on SMBus
  abbrev pub KeepsPremise : Lab plans → Event → Type 0
  KeepsPremise lab event = IsJoinLive plans lab (event_of lab_names file lab.board event)

  -- no event brings the port such a packet, where it happens
  abbrev pub AllKeepPremise : List Event → Lab plans → Type 0
  AllKeepPremise [] lab = Unit {0}
  AllKeepPremise (event ∷ events) lab = KeepsPremise lab event × AllKeepPremise events (happens file event lab)

  -- no packet that an event delivers to the port joins an assembly that another request's packet opened, where it happens
  abbrev pub AreOwn : List Event → Lab plans → Type 0
  AreOwn [] lab = Unit {0}
  AreOwn (event ∷ events) lab = IsOwn plans lab (event_of lab_names file lab.board event) × AreOwn events (happens file event lab)

  -- the play tells this of the premise on packets: every event keeps it, or the event of this place, counted from 1, is the first that breaks it
  abbrev pub TellsPremise : List Event → Lab plans → Option ℕ → Type 0
  TellsPremise events lab None = AllKeepPremise events lab
  TellsPremise events lab (Some place) =
      (before : List Event) × (rest : List Event) × (event : Event) × (events ≡ before ++ event ∷ rest) × (place ≡ length before + 1) × AllKeepPremise before lab
      × (¬ KeepsPremise (after file before lab) event)

module _ (file : BoardFile) (plan : List Op) (retries : ℕ) where
  -- the lab as it begins, and after events
  abbrev pub lab_after : List Event → Lab plans
  lab_after events = after file events (opening plans file lab_names plan retries)

  abbrev pub phase_after : List Event → Phase
  phase_after events = phase_of plans.words (lab_after events).manager.machine

  -- Once the plan is undone, and after all that comes then, every record is what it was at the start. Each Get, whoever asks it, is
  -- answered with the same code and shows the same configuration, and each request for a later part of a long attribute gets the same answer. So a Get
  -- of the manager in several requests, each answered with 00h, shows the same.
  abbrev pub UndoneForGood : List Event → Type 0
  UndoneForGood taken = (events later rest : List Event) → taken ≡ (events ++ later) ++ rest → phase_after events ≡ Undone
      → let now = (lab_after (events ++ later)).board in
      (now.records ≡ (lab_after []).board.records) × ShowsSame (own_family file lab_names) (lab_after []).board now × PartsShowSame (own_family file lab_names) (lab_after []).board now
      × ShowsSameParts file (ours file) (lab_after []).board now

  -- at an event that was taken the board answered the manager so, at the records after the plan's first `step` steps
  pub record GaveIn (taken : List Event) (step : ℕ) (asked : Asked) (answered : Answered) : Type 0 where
    pub before : List Event
    pub event : Event
    pub later : List Event
    pub all : taken ≡ before ++ event ∷ later
    pub answers : AnswerGiven file lab_names (lab_after before) (happens file event (lab_after before)) asked answered
    pub at : IsAfter (own_family file lab_names) plan (lab_after []).board.records step (lab_after before).board.records

  -- The phase says what the records are, so an undone plan leaves those of the start, and UndoRefused isn't told. So it does at each
  -- event from the one on at which the plan was undone. A plan that halted has its cause in the events that were taken: the answer that
  -- was given there, or a call of `stop`.
  pub record ToldStands (taken : List Event) (told : Told) : Type 0 where
    pub stands : PhaseMeans (own_family file lab_names) plan told.start told.phase told.records
    pub undone : told.phase ≡ Undone → told.records ≡ told.start
    pub for_good : UndoneForGood taken
    pub halts : CausedBy file lab_names (GaveIn taken) (In (Calls Stop) taken) plan told.phase

  -- so it is where no packet of the events taken joins a packet that has waited so long
  abbrev pub StandsIfKept : List Event → Ending → Type 0
  StandsIfKept events ending = AllKeepPremise file (taken_by events ending) (lab_after []) → ToldStands (taken_by events ending) (told_by ending)

  -- and where none joins another request's assembly
  abbrev pub StandsIfOwn : List Event → Ending → Type 0
  StandsIfOwn events ending = AreOwn file (taken_by events ending) (lab_after []) → ToldStands (taken_by events ending) (told_by ending)

  -- so it is with every play
  abbrev pub PlaysStand : Type 0
  PlaysStand = (events : List Event) (ending : Ending) → IsPlayed file plan retries events ending → StandsIfKept events ending × StandsIfOwn events ending
