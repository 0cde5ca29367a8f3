-- What is drawn of a play, once it is known how it ended and what was noted.
use Rattle.std.proofs.Common.{◌≡◌, ℕ, ◌+◌, List, length, Option, Some, None, Result, Ok, Err, IfOk, string_bytes, sym, subst}
use Rattle.cfg_records.specs.declared.board_file.BoardFile.{BoardFile}
use Rattle.record_base.specs.declared.op.Op.{Op}
use Rattle.text_lines.specs.declared.event.Event.{Event}
use Rattle.model_lab.specs.declared.fault.Fault.{Fault}
use Rattle.model_lab.specs.Played.{Ending, Whole, Stops}
use Rattle.lab_run.specs.declared.note.Note.{Note}
use Rattle.lab_play.specs.Ends.{IsEnding, PlayResult}
use Rattle.lab_play.specs.Noted.{NotesPlay}
use Rattle.lab_play.specs.declared.played.Played.{Played}
use Rattle.lab_play.specs.declared.played.LabFault.{LabFault}
use Rattle.lab_play.specs.declared.played.LabFault.TheVariants as fault
use Rattle.lab_play.specs.declared.run.Stopped.{Stopped}
use Rattle.app_play.specs.declared.inputs.Inputs.{Inputs}
use Rattle.app_base.specs.declared.report.Report.{Report}
use Rattle.app_play.specs.Account.{status_of}
use Rattle.app_play.specs.Drawn.{EndsAt, NotesPlayOf, DrawsChart, drawing}
use Rattle.app_play.specs.Ended.{given_of}

-- the notes of a play of all events are as many as these
pub ends_whole : (events : List Event) (notes : ℕ) (played : Played) (ending : Ending) → IsEnding (Ok played) ending → notes ≡ length events → EndsAt events notes None ending
ends_whole events notes played (Whole told) is all = all
ends_whole events notes played (Stops cause at told) is all = absurd is

-- and those of one that an event's fault ended are those before it
pub ends_stopped : (events : List Event) (notes : ℕ) (why : Fault) (place : ℕ) (played : Played) (ending : Ending) → IsEnding (Err (fault.Event why place played)) ending
    → place ≡ notes + 1 → EndsAt events notes (Some (record { place = place; fault = why })) ending
ends_stopped events notes why place played (Whole told) is behind = absurd is
ends_stopped events notes why place played (Stops cause at told) is behind = (sym is.0, sym is.1, behind)

-- what was noted of a play of all events
notes_whole : (file : BoardFile) (steps : List Op) (retries : ℕ) (events : List Event) (notes : List Note) (played : Played)
    → PlayResult file steps retries events (Ok played) → NotesPlay file steps retries events (Ok played) notes → NotesPlayOf file steps retries events None notes
notes_whole file steps retries events notes played plays noted = record {
  ending = plays.ending;
  played = plays.played;
  stands = plays.stands;
  ends = ends_whole events (length notes) played plays.ending plays.is noted.1;
  are = noted.0;
}

-- and of one that an event's fault ended
notes_stopped : (file : BoardFile) (steps : List Op) (retries : ℕ) (events : List Event) (notes : List Note) (why : Fault) (place : ℕ) (played : Played)
    → PlayResult file steps retries events (Err (fault.Event why place played)) → NotesPlay file steps retries events (Err (fault.Event why place played)) notes
    → NotesPlayOf file steps retries events (Some (record { place = place; fault = why })) notes
notes_stopped file steps retries events notes why place played plays noted = record {
  ending = plays.ending;
  played = plays.played;
  stands = plays.stands;
  ends = ends_stopped events (length notes) why place played plays.ending plays.is noted.1;
  are = noted.0;
}

-- what was noted of a play with these parts
pub notes_of : (file : BoardFile) (steps : List Op) (retries : ℕ) (events : List Event) (notes : List Note) (given : Result Played LabFault) (played : Played) (stopped : Option Stopped)
    → given ≡ given_of played stopped → PlayResult file steps retries events given → NotesPlay file steps retries events given notes → NotesPlayOf file steps retries events stopped notes
notes_of file steps retries events notes given played None same plays noted =
    notes_whole file steps retries events notes played (subst (λ (g : Result Played LabFault). PlayResult file steps retries events g) same plays)
    (subst (λ (g : Result Played LabFault). NotesPlay file steps retries events g notes) same noted)
notes_of file steps retries events notes given played (Some stopped) same plays noted =
    notes_stopped file steps retries events notes stopped.fault stopped.place played (subst (λ (g : Result Played LabFault). PlayResult file steps retries events g) same plays)
    (subst (λ (g : Result Played LabFault). NotesPlay file steps retries events g notes) same noted)

-- a report of the drawing draws the play
pub draws : {E : Type 0} (inputs : Inputs) (r : Result Report E) (notes : List Note) (stopped : Option Stopped)
    → NotesPlayOf inputs.file inputs.plan.steps inputs.plan.retries inputs.events stopped notes
    → IfOk r (λ report. string_bytes report.text ≡ drawing notes stopped) → IfOk r (λ report. report.status ≡ status_of stopped)
    → IfOk r (λ report. DrawsChart inputs (string_bytes report.text) report.status)
draws inputs (Ok report) notes stopped play said ended = record { notes = notes; stopped = stopped; play = play; said = said; ended = ended }
draws inputs (Err e) notes stopped play said ended = tt
