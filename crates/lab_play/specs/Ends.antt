-- What a play gives.
use Rattle.std.specs.Prelude.{◌≡◌, ◌≤◌, ℕ, List, length, Option, Some, None, Result, Ok, Err}
use Rattle.cfg_records.specs.declared.board_file.BoardFile.{BoardFile}
use Rattle.record_base.specs.declared.op.Op.{Op}
use Rattle.cfg_records.specs.Records.{KeysDiffer, records_of}
use Rattle.cfg_records.specs.Boards.{pairs_of}
use Rattle.undo_plans.specs.Steps.{most_steps}
use Rattle.model_lab.specs.Lab.{Lab as LabModel, opening}
use Rattle.text_lines.specs.declared.event.Event.{Event}
use Rattle.model_lab.specs.Meaning.{lab_names}
use Rattle.model_lab.specs.Played.{plans, Told, Ending, Whole, Stops, told_of, IsPlayed}
use Rattle.model_headline.specs.Plays.{taken_by, told_by, TellsPremise, ToldStands, StandsIfKept}
use Rattle.model_headline.specs.CleanPlays.{EndsClean}
use Rattle.model_headline.specs.Promise.{Promise}
use Rattle.model_headline.specs.Stated.{IsStated}
use Rattle.lab_run.specs.Shown.{Represents}
use Rattle.lab_play.specs.declared.run.Stopped.{Stopped}
use Rattle.lab_play.specs.declared.played.Played.{Played}
use Rattle.lab_play.specs.declared.played.LabFault.{LabFault}
use Rattle.lab_play.specs.declared.played.LabFault.TheVariants as fault
use Rattle.lab_play.specs.Watched.{WatchRepresents}

-- what a play tells of a lab that began with these records, each listed once, and of the lab as it is now
pub record TellsPlay (played : Played) (told : Told) : Type 0 where
  pub file : BoardFile
  pub first : LabModel plans
  pub now : LabModel plans
  pub shown : Represents file played.lab.value now
  pub once : KeysDiffer played.start.items
  pub start : first.board.records ≡ records_of played.start.items
  pub is : told ≡ told_of file first now

-- a play of the plan that begins: its lab shows the one that the model begins with, its records are the board's, and its steps are few
pub record BeginsPlay (file : BoardFile) (steps : List Op) (retries : ℕ) (played : Played) : Type 0 where
  pub start : played.start.items ≡ pairs_of file
  pub once : KeysDiffer (pairs_of file)
  pub shows : Represents file played.lab.value (opening plans file lab_names steps retries)
  pub few : length steps ≤ most_steps
  pub watches : WatchRepresents played.watch (opening plans file lab_names steps retries)

-- what was given is this ending
abbrev pub IsEnding : Result Played LabFault → Ending → Type 0
IsEnding (Ok played) (Whole told) = TellsPlay played told
IsEnding (Err (fault.Event why place played)) (Stops cause at told) = (cause ≡ why) × (at ≡ place) × TellsPlay played told
IsEnding _ _ = ⊥

-- the first event that broke the premise on packets, as what was given tells it
abbrev pub broken_in : Result Played LabFault → Option ℕ
broken_in (Ok played) = played.watch.broken
broken_in (Err (fault.Event why place played)) = played.watch.broken
broken_in (Err fault.Memory) = None

-- A play of the plan by the schedule ended so, and it tells which event that it took broke the premise on packets first, if one did. Where
-- none did, what it tells stands, keeps the promise, and is what the statement's lab has after as many honest events of its own.
pub record PlayEnd (file : BoardFile) (steps : List Op) (retries : ℕ) (events : List Event) (given : Result Played LabFault) : Type 0 where
  pub ending : Ending
  pub is : IsEnding given ending
  pub played : IsPlayed file steps retries events ending
  pub premise : TellsPremise file (taken_by events ending) (opening plans file lab_names steps retries) (broken_in given)
  pub stands : StandsIfKept file steps retries events ending
  pub unbroken : broken_in given ≡ None → ToldStands file steps retries (taken_by events ending) (told_by ending)
  pub promise : broken_in given ≡ None → Promise file steps (taken_by events ending) (told_by ending)
  pub stated : broken_in given ≡ None → IsStated file steps retries (length (taken_by events ending)) (told_by ending)
  pub clean : EndsClean file steps retries events ending

-- a play ends so, unless memory is refused
abbrev pub PlayResult : BoardFile → List Op → (retries : ℕ) → List Event → Result Played LabFault → Type 0
PlayResult file steps retries events (Err fault.Memory) = Unit {0}
PlayResult file steps retries events given = PlayEnd file steps retries events given

-- ---- what the calls give

-- of a play whose events ended so
abbrev pub given : {E : Type 0} → Played → Result (Option Stopped) E → Result Played LabFault
given played (Ok None) = Ok played
given played (Ok (Some stopped)) = Err (fault.Event stopped.fault stopped.place played)
given played (Err memory) = Err fault.Memory
