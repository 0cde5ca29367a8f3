-- What a play tells of a clean schedule.
use Rattle.std.specs.Prelude.{◌≡◌, ℕ, ◌+◌, List, [], ◌∷◌, length}
use Rattle.two_wire.specs.declared.Bus.TheVariants.{Ipmb, Smbus}
use Rattle.record_base.specs.declared.op.Op.{Op}
use Rattle.cfg_records.specs.declared.board_file.BoardFile.{BoardFile}
use Rattle.model_undo.specs.declared.phase.Phase.TheVariants.{Undone}
use Rattle.model_undo.specs.Plan.{IsAfter}
use Rattle.model_lab.specs.Lab as lab
use Rattle.model_lab.specs.Lab.{Lab, opening}
use Rattle.model_lab.specs.Faults.{begun_on}
use Rattle.model_lab.specs.Clean.{IsCleanRun, IsCleanUndo}
use Rattle.text_lines.specs.declared.event.Event.{Event}
use Rattle.model_lab.specs.Meaning.{lab_names, event_of}
use Rattle.model_lab.specs.Played.{plans, Told, Ending, Whole, happens, after, IsPlayed}
use Rattle.model_headline.specs.Tied.{own_family}
use Rattle.model_headline.specs.CleanLink.{RunsOnCleanLink}

module _ (file : BoardFile) where
  -- the lab's events of a schedule's events, from a lab on
  abbrev pub events_from : List Event → Lab plans → List lab.Event
  events_from [] lab = []
  events_from (event ∷ events) lab = event_of lab_names file lab.board event ∷ events_from events (happens file event lab)

module _ (file : BoardFile) (plan : List Op) (retries : ℕ) where
  abbrev pub first : Lab plans
  first = opening plans file lab_names plan retries

  -- so many requests of the manager were begun when the schedule was over
  abbrev pub begun_by : List Event → ℕ
  begun_by events = let machine = (after file events first).manager.machine in begun_on plans.words Ipmb machine + begun_on plans.words Smbus machine

  -- the play took all events, and tells the phase that the plan ends in on a clean link, and the records after the steps that were done
  abbrev pub TellsRun : RunsOnCleanLink file lab_names plan retries → List Event → Ending → Type 0
  TellsRun runs events ending =
      (told : Told) × (ending ≡ Whole told) × (told.phase ≡ runs.phase) × (begun_by events ≡ runs.requests + runs.more)
      × IsAfter (own_family file lab_names) plan told.start (length runs.steps) told.records

  -- the play took all events, and tells that the plan is undone, and the records of the start
  abbrev pub TellsUndo : RunsOnCleanLink file lab_names plan retries → List Event → Ending → Type 0
  TellsUndo runs events ending =
      (told : Told) × (ending ≡ Whole told) × (told.phase ≡ Undone) × (begun_by events ≡ runs.requests + runs.more + runs.back)
      × (told.records ≡ told.start)

  -- the schedule starts the plan, or starts and undoes it, on a link that loses, repeats and delays nothing
  abbrev pub StartsClean : List Event → Type 0
  StartsClean events = IsCleanRun plans file (events_from file events first) first

  abbrev pub UndoesClean : List Event → Type 0
  UndoesClean events = IsCleanUndo plans file (events_from file events first) first

  -- so ends a play whose schedule is clean
  pub record EndsClean (events : List Event) (ending : Ending) : Type 0 where
    pub runs : RunsOnCleanLink file lab_names plan retries
    pub ran : StartsClean events → TellsRun runs events ending
    pub undone : UndoesClean events → TellsUndo runs events ending

  -- A plan of at most `most_steps` has clean schedules: one starts the plan, and one starts and undoes it. Every play of a clean schedule ends so.
  pub record PlaysRunClean : Type 0 where
    pub can_run : (events : List Event) × StartsClean events
    pub can_undo : (events : List Event) × UndoesClean events
    pub ends : (events : List Event) (ending : Ending) → IsPlayed file plan retries events ending → EndsClean events ending
