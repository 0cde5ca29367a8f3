-- The account of a play.
use Rattle.std.specs.Prelude.{◌≡◌, ℕ, List, Option, Some, None}
use Rattle.std.specs.List.{AllZip}
use Rattle.cfg_records.specs.Records.{Pair, KeysDiffer, records_of}
use Rattle.undo_core.specs.Shown.{backs}
use Rattle.model_lab.specs.Played.{Told, Ending, Whole, Stops}
use Rattle.lab_run.specs.Shown.{IsSentFrame}
use Rattle.cfg_records.specs.Changed.{changed_in}
use Rattle.app_play.specs.declared.account.Account.{Account}
use Rattle.lab_play.specs.declared.run.Stopped.{Stopped}
use Rattle.app_base.specs.declared.status.Status.{Status}
use Rattle.app_base.specs.declared.status.Status.TheVariants as ended

-- so many of the records that a board began with, each listed once, have another value
pub record AreChanged (number : ℕ) (told : Told) : Type 0 where
  pub start : List Pair
  pub once : KeysDiffer start
  pub began : told.start ≡ records_of start
  pub counted : number ≡ changed_in told.records start

-- The account says what is told of a lab: the manager's phase, the frames, each as its bytes, with its way and its bus, the requests
-- that undo what was done, and how many records changed.
pub record AccountOf (account : Account) (told : Told) : Type 0 where
  pub phase : account.phase ≡ told.phase
  pub frames : AllZip IsSentFrame account.frames.now told.frames
  pub undo : backs account.undo.now.members ≡ told.undo
  pub changed : AreChanged account.changed told

-- it is the account of a play that ended so: of all events, or of those before the one that has the fault, which it names by its place
abbrev pub IsAccountOf : Account → Ending → Type 0
IsAccountOf account (Whole told) = AccountOf account told × (account.stopped ≡ None)
IsAccountOf account (Stops cause at told) =
    AccountOf account told × ((stopped : Stopped) × (account.stopped ≡ Some stopped) × (stopped.fault ≡ cause) × (stopped.place ≡ at))

-- how a run ends: well, or by the event that wasn't taken
abbrev pub status_of : Option Stopped → Status
status_of None = ended.Success
status_of (Some stopped) = ended.Stopped
