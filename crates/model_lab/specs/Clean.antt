-- Clean schedules: the links lose, repeat and delay nothing, and nobody else asks.
use Rattle.std.specs.Prelude.{◌≡◌, ◌⊎◌, ℕ, ◌+◌, List, [], ◌∷◌, ◌++◌, length, Option, Some, None, slice_get}
use Rattle.cfg_records.specs.declared.board_file.BoardFile.{BoardFile}
use Rattle.model_undo.specs.declared.call.Call.TheVariants.{Start, Undo}
use Rattle.model_lab.specs.ManagerSteps.{Plans}
use Rattle.model_lab.specs.declared.way.Way.{Way}
use Rattle.model_lab.specs.declared.way.Way.TheVariants.{ToPort, ToManager, ToOthers}
use Rattle.model_lab.specs.Lab.{LabFrame, Event, Calls, ToBmc, ToMgr, Lab, step, run}

-- the event that delivers a frame of this number, by its way
abbrev pub delivery_of : ℕ → Way → Option Event
delivery_of number ToPort = Some (ToBmc number)
delivery_of number ToManager = Some (ToMgr number)
delivery_of number ToOthers = None

-- the event that delivers the frame of this number, if there is such a frame
abbrev pub delivery_in : ℕ → Option LabFrame → Option Event
delivery_in number None = None
delivery_in number (Some frame) = delivery_of number frame.way

module _ (plans : Plans) (setup : BoardFile) where
  -- the events deliver the frames from this number on, each once and in order, until no frame that was sent is left
  abbrev pub DeliversFrom : ℕ → List Event → Lab plans → Type 0
  DeliversFrom number [] lab = slice_get lab.frames number ≡ None
  DeliversFrom number (event ∷ events) lab =
      (delivery_in number (slice_get lab.frames number) ≡ Some event) × DeliversFrom (number + 1) events (step plans setup lab event)

  -- the manager starts, and the events deliver all frames
  pub record IsCleanRun (events : List Event) (lab : Lab plans) : Type 0 where
    pub deliveries : List Event
    pub delivered : DeliversFrom 0 deliveries (step plans setup lab (Calls Start))
    pub all : events ≡ Calls Start ∷ deliveries

  -- after such a run the manager undoes, and the events deliver all frames again
  pub record IsCleanUndo (events : List Event) (lab : Lab plans) : Type 0 where
    pub before : List Event
    pub deliveries : List Event
    pub ran : IsCleanRun before lab
    pub delivered : let after = run plans setup before lab in DeliversFrom (length after.frames) deliveries (step plans setup after (Calls Undo))
    pub all : events ≡ before ++ Calls Undo ∷ deliveries

  -- the schedule is clean
  abbrev pub IsClean : List Event → Lab plans → Type 0
  IsClean events lab = IsCleanRun events lab ⊎ IsCleanUndo events lab
