-- A play that is drawn.
use Rattle.std.specs.Prelude.{◌≡◌, ℕ, ◌+◌, List, ◌++◌, length, Option, Some, None}
use Rattle.std.specs.List.{flat_map}
use Rattle.text_lines.specs.Cuts.{ended}
use Rattle.cfg_records.specs.declared.board_file.BoardFile.{BoardFile}
use Rattle.record_base.specs.declared.op.Op.{Op}
use Rattle.text_lines.specs.declared.event.Event.{Event}
use Rattle.model_lab.specs.Played.{Ending, Whole, Stops, IsPlayed}
use Rattle.model_headline.specs.Plays.{StandsIfKept}
use Rattle.lab_run.specs.declared.note.Note.{Note}
use Rattle.app_play.specs.Chart.{chart_of}
use Rattle.lab_play.specs.Noted.{AreNotes}
use Rattle.app_play.specs.declared.inputs.Inputs.{Inputs}
use Rattle.lab_play.specs.declared.run.Stopped.{Stopped}
use Rattle.app_play.specs.Lines.{ending}
use Rattle.app_base.specs.declared.status.Status.{Status}
use Rattle.app_play.specs.Account.{status_of}

-- after so many notes the play ended so: with all events, or before this one
abbrev pub EndsAt : List Event → (notes : ℕ) → Option Stopped → Ending → Type 0
EndsAt events notes None (Whole told) = notes ≡ length events
EndsAt events notes (Some stopped) (Stops cause at told) = (stopped.fault ≡ cause) × (stopped.place ≡ at) × (stopped.place ≡ notes + 1)
EndsAt events notes _ _ = ⊥

-- These are the notes of a play: of all its events, or of those before this one, which has a fault. The
-- play's phase is true: it says what the records are.
pub record NotesPlayOf (file : BoardFile) (steps : List Op) (retries : ℕ) (events : List Event) (stopped : Option Stopped) (notes : List Note) : Type 0 where
  pub ending : Ending
  pub played : IsPlayed file steps retries events ending
  pub stands : StandsIfKept file steps retries events ending
  pub ends : EndsAt events (length notes) stopped ending
  pub are : AreNotes file steps retries events notes

-- the chart, and the line of the event that wasn't taken
abbrev pub drawing : List Note → Option Stopped → List ℕ
drawing notes stopped = chart_of notes ++ flat_map ended (ending stopped)

-- the text is the chart of a play of these inputs: of the lab's run of the schedule, up to the first event that has a fault
pub record DrawsChart (inputs : Inputs) (text : List ℕ) (status : Status) : Type 0 where
  pub notes : List Note
  pub stopped : Option Stopped
  pub play : NotesPlayOf inputs.file inputs.plan.steps inputs.plan.retries inputs.events stopped notes
  pub said : text ≡ drawing notes stopped
  pub ended : status ≡ status_of stopped
