-- What the play of a schedule gives: the lab's run, up to the first event that has a fault.
use Rattle.std.specs.Prelude.{◌≡◌, ℕ, ◌+◌, List, [], ◌∷◌, ◌++◌, length, Option, Some, None}
use Rattle.cfg_records.specs.declared.board_file.BoardFile.{BoardFile}
use Rattle.record_base.specs.declared.key.Key.{Key}
use Rattle.record_base.specs.declared.op.Op.{Op}
use Rattle.record_kinds.specs.Series.{Series}
use Rattle.model_undo.specs.declared.phase.Phase.{Phase}
use Rattle.model_undo.specs.Machine.{phase_of}
use Rattle.model_lab.specs.ManagerSteps.{Plans, board_plans}
use Rattle.model_lab.specs.Lab.{LabFrame, Lab, step, opening}
use Rattle.model_lab.specs.declared.fault.Fault.{Fault}
use Rattle.model_lab.specs.Faults.{fault_of}
use Rattle.text_lines.specs.declared.event.Event.{Event}
use Rattle.model_lab.specs.Meaning.{lab_names, event_of}

-- the plans of the lab's manager
abbrev pub plans : Plans
plans = board_plans lab_names

-- what a play tells of a lab
pub record Told : Type 0 where
  pub start : Key → Option (List ℕ)
  pub records : Key → Option (List ℕ)
  pub phase : Phase
  pub frames : List LabFrame
  pub undo : List Series

-- how a play ends: after all events, or at the event of this place, counted from 1, which has the fault and isn't taken
pub data Ending : Type 0 where
  Whole : Told → Ending
  Stops : Fault → (place : ℕ) → Told → Ending

module _ (file : BoardFile) where
  -- the fault of an event
  abbrev pub fault_at : Lab plans → Event → Option Fault
  fault_at lab event = fault_of plans lab (event_of lab_names file lab.board event)

  -- the lab after an event
  abbrev pub happens : Event → Lab plans → Lab plans
  happens event lab = step plans file lab (event_of lab_names file lab.board event)

  -- the lab after events
  abbrev pub after : List Event → Lab plans → Lab plans
  after [] lab = lab
  after (event ∷ events) lab = after events (happens event lab)

  -- no event has a fault, where it happens
  abbrev pub AreTaken : List Event → Lab plans → Type 0
  AreTaken [] lab = Unit {0}
  AreTaken (event ∷ events) lab = (fault_at lab event ≡ None) × AreTaken events (happens event lab)

  -- what a play tells of a lab that began so
  abbrev pub told_of : Lab plans → Lab plans → Told
  told_of first lab = record {
    start = first.board.records;
    records = lab.board.records;
    phase = phase_of plans.words lab.manager.machine;
    frames = lab.frames;
    undo = lab.manager.machine.undo;
  }

  -- the play takes the events up to the first that has a fault, and tells of the lab after the events before that
  abbrev pub PlaysFrom : Lab plans → List Event → Ending → Type 0
  PlaysFrom first events (Whole told) = AreTaken events first × (told ≡ told_of first (after events first))
  PlaysFrom first events (Stops fault place told) =
      (before : List Event) × (rest : List Event) × (event : Event) × (events ≡ before ++ event ∷ rest) × (place ≡ length before + 1) × AreTaken before first
      × (fault_at (after before first) event ≡ Some fault) × (told ≡ told_of first (after before first))

  -- the play begins with a lab as it begins
  abbrev pub IsPlayed : List Op → (retries : ℕ) → List Event → Ending → Type 0
  IsPlayed steps retries events ending = PlaysFrom (opening plans file lab_names steps retries) events ending
