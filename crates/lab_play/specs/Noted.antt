-- What is noted of each event of a play.
use Rattle.std.specs.Prelude.{◌≡◌, ℕ, ◌+◌, ◌-◌, List, [], ◌∷◌, ◌++◌, length, take, Option, Some, None, Result, Ok, Err, option_map, slice_get}
use Rattle.std.specs.List.{AllZip}
use Rattle.two_wire.specs.declared.Bus.{Bus}
use Rattle.cfg_records.specs.declared.board_file.BoardFile.{BoardFile}
use Rattle.record_base.specs.declared.op.Op.{Op}
use Rattle.model_undo.specs.declared.phase.Phase.{Phase}
use Rattle.model_undo.specs.Machine.{phase_of}
use Rattle.model_lab.specs.Lab.{Lab as LabModel, opening}
use Rattle.bmc_core.specs.declared.out.Disposition.{Disposition}
use Rattle.text_lines.specs.declared.event.Event.{Event}
use Rattle.model_lab.specs.Meaning.{lab_names}
use Rattle.model_lab.specs.Played.{plans, happens}
use Rattle.lab_run.specs.declared.note.Delivery.{Delivery}
use Rattle.lab_run.specs.declared.note.Note.{Note}
use Rattle.lab_run.specs.declared.lab_state.Lab.{Lab}
use Rattle.lab_play.specs.declared.run.Stopped.{Stopped}
use Rattle.lab_run.specs.declared.step.Refused.{Refused}
use Rattle.lab_run.specs.declared.step.Refused.TheVariants as refused
use Rattle.lab_play.specs.declared.played.Played.{Played}
use Rattle.lab_play.specs.declared.played.LabFault.{LabFault}
use Rattle.lab_play.specs.declared.played.LabFault.TheVariants as fault
use Rattle.lab_run.specs.Shown.{Represents}
use Rattle.lab_run.specs.Coming.{comes_at, done_at}

-- what there is to note of an event
pub record NotedRun : Type 0 where
  pub event : Event
  pub came : Option Delivery
  pub done : Option Disposition
  pub sends : Option Bus
  pub before : ℕ
  pub after : ℕ
  pub phase : Phase

-- the note says it
pub record IsNote (note : Note) (noted : NotedRun) : Type 0 where
  pub event : note.event.now ≡ noted.event
  pub came : note.came ≡ noted.came
  pub done : note.done ≡ noted.done
  pub sends : note.sends ≡ noted.sends
  pub before : note.before ≡ noted.before
  pub after : note.after ≡ noted.after
  pub phase : note.phase ≡ noted.phase

module _ (file : BoardFile) where
  -- what there is to note of an event that happens in a lab: frames are numbered as they are sent
  abbrev pub noted_at : LabModel plans → Event → NotedRun
  noted_at lab_model event =
      let y = happens file event lab_model in
      record {
        event = event;
        came = comes_at lab_model event;
        done = done_at lab_model event;
        sends = option_map (λ f. f.on) (slice_get y.frames (length lab_model.frames));
        before = length lab_model.frames;
        after = length y.frames;
        phase = phase_of plans.words y.manager.machine;
      }

  -- and of events, one after another
  abbrev pub noted_from : List Event → LabModel plans → List NotedRun
  noted_from [] lab_model = []
  noted_from (event ∷ events) lab_model = noted_at lab_model event ∷ noted_from events (happens file event lab_model)

-- the notes are those of a play's first events, as many as there are notes
pub record AreNotes (file : BoardFile) (steps : List Op) (retries : ℕ) (events : List Event) (notes : List Note) : Type 0 where
  pub each : AllZip IsNote notes (noted_from file (take (length notes) events) (opening plans file lab_names steps retries))

-- ---- what calls note

-- an event is asked of a lab: a note is added where it happens, and none where it has a fault; where memory was refused, nothing is said
abbrev pub NotesStep : Event → Lab → Result (Unit {0}) Refused → (before after : List Note) → Type 0
NotesStep event old (Ok done) before after =
    (note : Note) × (after ≡ before ++ note ∷ []) × ((file : BoardFile) (lab_model : LabModel plans) → Represents file old lab_model → IsNote note (noted_at file lab_model event))
NotesStep event old (Err (refused.Fault why)) before after = after ≡ before
NotesStep event old (Err refused.Memory) before after = Unit {0}

-- of events that were asked of a lab, these were noted: whatever lab of the model it showed
abbrev pub NotesEvents : List Event → Lab → List Note → Type 0
NotesEvents events old notes = (file : BoardFile) (lab_model : LabModel plans) → Represents file old lab_model → AllZip IsNote notes (noted_from file events lab_model)

-- all events were noted, or those before the one that isn't taken; where memory was refused, nothing is said
abbrev pub NotesRun : {E : Type 0} → List Event → Lab → Result (Option Stopped) E → List Note → Type 0
NotesRun events old (Ok None) notes = NotesEvents events old notes × (length notes ≡ length events)
NotesRun events old (Ok (Some stopped)) notes = NotesEvents (take (stopped.place - 1) events) old notes × (stopped.place ≡ length notes + 1)
NotesRun events old (Err memory) notes = Unit {0}

-- how many events of a play were noted: all, or those before the one that has the fault
abbrev pub NotesPlay : BoardFile → List Op → (retries : ℕ) → List Event → Result Played LabFault → List Note → Type 0
NotesPlay file steps retries events (Ok played) notes = AreNotes file steps retries events notes × (length notes ≡ length events)
NotesPlay file steps retries events (Err (fault.Event why place played)) notes = AreNotes file steps retries events notes × (place ≡ length notes + 1)
NotesPlay file steps retries events (Err fault.Memory) notes = Unit {0}
