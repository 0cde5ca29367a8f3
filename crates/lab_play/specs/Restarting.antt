-- What a schedule makes of a lab whose manager is made again behind the events of some places, and what is watched of the premise on packets.
use Rattle.std.specs.Prelude.{◌≡◌, ℕ, ◌+◌, ◌-◌, List, [], ◌∷◌, ◌++◌, length, take, Option, Some, None, Result, Ok, Err}
use Rattle.std.specs.List.{AllZip}
use Rattle.cfg_records.specs.declared.board_file.BoardFile.{BoardFile}
use Rattle.record_base.specs.declared.op.Op.{Op}
use Rattle.model_lab.specs.Lab.{Lab as LabModel, opening}
use Rattle.model_lab.specs.Meaning.{lab_names}
use Rattle.model_lab.specs.Played.{plans, Ending, fault_at}
use Rattle.model_headline.specs.Plays.{KeepsPremise, taken_by, told_by}
use Rattle.text_lines.specs.declared.event.Event.{Event}
use Rattle.lab_run.specs.Shown.{Represents, ForRepresented}
use Rattle.lab_run.specs.declared.note.Note.{Note}
use Rattle.lab_run.specs.declared.lab_state.Lab.{Lab}
use Rattle.lab_run.specs.declared.step.Refused.{Refused}
use Rattle.lab_run.specs.declared.step.Refused.TheVariants as refused
use Rattle.lab_play.specs.declared.run.Stopped.{Stopped}
use Rattle.lab_play.specs.declared.watch.Watch.{Watch}
use Rattle.lab_play.specs.declared.played.Played.{Played}
use Rattle.lab_play.specs.declared.played.LabFault.{LabFault}
use Rattle.lab_play.specs.declared.played.LabFault.TheVariants as fault
use Rattle.lab_play.specs.Watched.{WatchRepresents, TellsNext}
use Rattle.lab_play.specs.Noted.{NotedRun, IsNote, noted_at}
use Rattle.lab_play.specs.Ends.{IsEnding, broken_in}
use Rattle.lab_play.specs.Restarts.{Turn, turns_at, turns_of, after, AreTaken, AllKeep, TellsKept, PlaysTurns, ToldStands}

-- whatever lab of the model it showed, on a board of whatever file, the turns are taken, and it goes on to the one after them
abbrev pub TakesTurns : List Turn → Lab → Lab → Type 0
TakesTurns turns old new = ForRepresented old (λ file x. AreTaken file turns x × Represents file new (after file turns x))

module _ (places : List ℕ) where
  -- An event of this place is asked of a lab. It happens where it has no fault, and the manager is made again behind it if its place is one of
  -- those; else nothing changes. Where memory is refused, nothing is said.
  abbrev pub TurnStep : (place : ℕ) → Event → Lab → Result (Unit {0}) Refused → Lab → Type 0
  TurnStep place event old (Ok done) new = ForRepresented old (λ file x. (fault_at file x event ≡ None) × Represents file new (after file (turns_at places place event) x))
  TurnStep place event old (Err (refused.Fault why)) new = (new ≡ old) × ForRepresented old (λ file x. fault_at file x event ≡ Some why)
  TurnStep place event old (Err refused.Memory) new = Unit {0}

  -- the events were taken up to the one at the place, which has the fault, and the lab is the one before it
  pub record StopsAtTurn (events : List Event) (old new : Lab) (stopped : Stopped) : Type 0 where
    pub before : List Event
    pub event : Event
    pub rest : List Event
    pub all : events ≡ before ++ event ∷ rest
    pub place : stopped.place ≡ length before + 1
    pub refuses : ForRepresented old (λ file x. fault_at file (after file (turns_of places before) x) event ≡ Some stopped.fault)
    pub left : TakesTurns (turns_of places before) old new

  -- a schedule is asked of a lab: all events are taken, or those up to one that isn't; where memory was refused, nothing is said
  abbrev pub RunsTurns : {E : Type 0} → List Event → Lab → Result (Option Stopped) E → Lab → Type 0
  RunsTurns events old (Ok None) new = TakesTurns (turns_of places events) old new
  RunsTurns events old (Ok (Some stopped)) new = StopsAtTurn events old new stopped
  RunsTurns events old (Err memory) new = Unit {0}

  -- ---- what is watched

  abbrev pub WatchesTurn : (place : ℕ) → Event → Lab → Watch → Result (Unit {0}) Refused → Watch → Type 0
  WatchesTurn place event lab old (Ok did) new = (file : BoardFile) (lab_model : LabModel plans) → Represents file lab lab_model → WatchRepresents old lab_model
      → WatchRepresents new (after file (turns_at places place event) lab_model) × TellsNext old.broken new.broken place (KeepsPremise file lab_model event)
  WatchesTurn place event lab old (Err (refused.Fault why)) new = new ≡ old
  WatchesTurn place event lab old (Err refused.Memory) new = Unit {0}

  -- events happened, and this is told of the premise
  abbrev pub WatchesTurns : List Event → Lab → Watch → Watch → Type 0
  WatchesTurns events lab old new = (file : BoardFile) (lab_model : LabModel plans) → Represents file lab lab_model → WatchRepresents old lab_model
      → WatchRepresents new (after file (turns_of places events) lab_model) × TellsKept file places events lab_model new.broken

  abbrev pub WatchesRunTurns : {E : Type 0} → List Event → Lab → Watch → Result (Option Stopped) E → Watch → Type 0
  WatchesRunTurns events lab old (Ok None) new = WatchesTurns events lab old new
  WatchesRunTurns events lab old (Ok (Some stopped)) new = WatchesTurns (take (stopped.place - 1) events) lab old new
  WatchesRunTurns events lab old (Err memory) new = Unit {0}

-- ---- what is noted

module _ (file : BoardFile) (places : List ℕ) where
  -- what there is to note of events, of which the first has this place, one after another
  abbrev pub noted_from : (place : ℕ) → List Event → LabModel plans → List NotedRun
  noted_from place [] lab_model = []
  noted_from place (event ∷ events) lab_model = noted_at file lab_model event ∷ noted_from (place + 1) events (after file (turns_at places place event) lab_model)

module _ (places : List ℕ) where
  -- of events that were asked of a lab, these were noted: whatever lab of the model it showed
  abbrev pub NotesTurnsOf : List Event → Lab → List Note → Type 0
  NotesTurnsOf events old notes = ForRepresented old (λ file x. AllZip IsNote notes (noted_from file places 1 events x))

  -- all events were noted, or those before the one that isn't taken; where memory was refused, nothing is said
  abbrev pub NotesRunTurns : {E : Type 0} → List Event → Lab → Result (Option Stopped) E → List Note → Type 0
  NotesRunTurns events old (Ok None) notes = NotesTurnsOf events old notes × (length notes ≡ length events)
  NotesRunTurns events old (Ok (Some stopped)) notes = NotesTurnsOf (take (stopped.place - 1) events) old notes × (stopped.place ≡ length notes + 1)
  NotesRunTurns events old (Err memory) notes = Unit {0}

-- the notes are those of a play's first events, as many as there are notes
pub record AreTurnNotes (file : BoardFile) (steps : List Op) (retries : ℕ) (places : List ℕ) (events : List Event) (notes : List Note) : Type 0 where
  pub each : AllZip IsNote notes (noted_from file places 1 (take (length notes) events) (opening plans file lab_names steps retries))

-- how many events of a play were noted: all, or those before the one that has the fault
abbrev pub NotesTurns : BoardFile → List Op → (retries : ℕ) → (places : List ℕ) → List Event → Result Played LabFault → List Note → Type 0
NotesTurns file steps retries places events (Ok played) notes = AreTurnNotes file steps retries places events notes × (length notes ≡ length events)
NotesTurns file steps retries places events (Err (fault.Event why place played)) notes = AreTurnNotes file steps retries places events notes × (place ≡ length notes + 1)
NotesTurns file steps retries places events (Err fault.Memory) notes = Unit {0}

-- ---- what such a play gives

-- A play of the plan by the schedule ended so, whose manager was made again behind the events of these places, and it tells which event that it took
-- broke the premise on packets first, if one did. Where none did, what it tells stands.
pub record RestartedEnd (file : BoardFile) (steps : List Op) (retries : ℕ) (places : List ℕ) (events : List Event) (given : Result Played LabFault) : Type 0 where
  pub ending : Ending
  pub is : IsEnding given ending
  pub played : PlaysTurns file places (opening plans file lab_names steps retries) events ending
  pub premise : TellsKept file places (taken_by events ending) (opening plans file lab_names steps retries) (broken_in given)
  pub stands : AllKeep file (turns_of places (taken_by events ending)) (opening plans file lab_names steps retries)
      → ToldStands file steps retries (turns_of places (taken_by events ending)) (told_by ending)
  pub unbroken : broken_in given ≡ None → ToldStands file steps retries (turns_of places (taken_by events ending)) (told_by ending)

-- it ends so, unless memory is refused
abbrev pub RestartedResult : BoardFile → List Op → (retries : ℕ) → (places : List ℕ) → List Event → Result Played LabFault → Type 0
RestartedResult file steps retries places events (Err fault.Memory) = Unit {0}
RestartedResult file steps retries places events given = RestartedEnd file steps retries places events given
