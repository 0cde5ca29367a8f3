-- What a schedule makes of a lab.
use Rattle.std.specs.Prelude.{◌≡◌, ◌+◌, ℕ, false, List, ◌∷◌, ◌++◌, length, Option, Some, None, Result, Ok, Err, is_ok}
use Rattle.cfg_records.specs.declared.board_file.BoardFile.{BoardFile}
use Rattle.model_lab.specs.Lab.{Lab as LabModel}
use Rattle.text_lines.specs.declared.event.Event.{Event}
use Rattle.model_lab.specs.Played.{plans, fault_at, after, AreTaken}
use Rattle.lab_run.specs.Shown.{Represents}
use Rattle.lab_run.specs.declared.lab_state.Lab.{Lab}
use Rattle.lab_play.specs.declared.run.Stopped.{Stopped}
use Rattle.lab_run.specs.declared.step.Refused.{Refused}
use Rattle.lab_run.specs.declared.step.Refused.TheVariants as refused

-- whatever lab of the model it showed, on a board of whatever file, the events are taken, and it goes on to the one after them
abbrev pub TakesEvents : List Event → Lab → Lab → Type 0
TakesEvents events old new =
    (file : BoardFile) (lab_model : LabModel plans) → Represents file old lab_model → AreTaken file events lab_model × Represents file new (after file events lab_model)

-- the events were taken up to the one at the place, which has the fault, and the lab is the one before it
pub record StopsAt (events : List Event) (old new : Lab) (stopped : Stopped) : Type 0 where
  pub before : List Event
  pub event : Event
  pub rest : List Event
  pub all : events ≡ before ++ event ∷ rest
  pub place : stopped.place ≡ length before + 1
  pub refuses : (file : BoardFile) (lab_model : LabModel plans) → Represents file old lab_model → fault_at file (after file before lab_model) event ≡ Some stopped.fault
  pub left : TakesEvents before old new

-- a schedule is asked of a lab: all events are taken, or those up to one that isn't; where memory was refused, nothing is said
abbrev pub RunsEvents : {E : Type 0} → List Event → Lab → Result (Option Stopped) E → Lab → Type 0
RunsEvents events old (Ok None) new = TakesEvents events old new
RunsEvents events old (Ok (Some stopped)) new = StopsAt events old new stopped
RunsEvents events old (Err memory) new = Unit {0}

-- this is given where the event of this place isn't taken
abbrev pub IsStop : {E : Type 0} → (place : ℕ) → Refused → Result (Option Stopped) E → Type 0
IsStop place (refused.Fault why) given = given ≡ Ok (Some (record { place = place; fault = why }))
IsStop place refused.Memory given = is_ok given ≡ false
