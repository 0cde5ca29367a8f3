-- What is said of a call, and with which status it ends.
use Rattle.std.specs.Prelude.{◌≡◌, ◌&&◌, ℕ, Bool, true, false, List, Option, is_none, map, Result, Ok, Err}
use Rattle.std.specs.declared.alloc.AllocError.{AllocError}
use Rattle.two_wire.specs.declared.Bus.TheVariants.{Smbus}
use Rattle.undo_plans.specs.declared.plan.Plan.{Plan}
use Rattle.app_base.specs.declared.console.Console.{Console}
use Rattle.app_base.specs.declared.console.Stream.{Stream}
use Rattle.app_base.specs.declared.console.Stream.TheVariants.{Output, Error}
use Rattle.app_base.specs.declared.status.Status.{Status}
use Rattle.app_base.specs.declared.status.Status.TheVariants.{RefusedFile}
use Rattle.app_base.specs.declared.files.UnreadFile.{UnreadFile}
use Rattle.app_base.specs.declared.files.UnreadFile.TheVariants.{NoText}
use Rattle.app_base.specs.Ending.{Saying, RunEnds}
use Rattle.app_base.specs.Files.{PrintsRefusal, Readings}
use Rattle.app_run.specs.Buses.{bus_of_step, is_used}
use Rattle.app_run.specs.Ends.{PrintsNothing}
use Rattle.app_apply.specs.declared.applying.Applied.{Applied}
use Rattle.app_apply.specs.declared.kept_calls.Reach.{Reach}
use Rattle.app_apply.specs.Statuses.{status_of}

-- the stream has a text, and the status is this
abbrev pub SaysOn : Stream → Status → Saying
SaysOn on status stream text said = (stream ≡ on) × (said ≡ status)

-- standard error has it
abbrev pub SaysWith : Status → Saying
SaysWith = SaysOn Error

-- where it is said what came of a plan: on standard output as an object, or else on standard error
abbrev pub stream_for : (json : Bool) → Stream
stream_for true = Output
stream_for false = Error

-- it is told that a file isn't read, there as an object, or else by its line
abbrev pub TellsUnread : (json : Bool) → UnreadFile → (word : List ℕ) → Saying
TellsUnread true why word stream text status = (why ≡ NoText) × SaysOn Output RefusedFile stream text status
TellsUnread false why word stream text status = PrintsRefusal why word stream text status

-- so it is of the file that a word names
abbrev pub SaysUnreadOn : (json : Bool) → Readings → (word : List ℕ) → Saying
SaysUnreadOn json gives word stream text status = (why : UnreadFile) × gives word (Err why) × TellsUnread json why word stream text status

-- requests of the plan go on SMBus, and no port of that is known
abbrev pub lacks_port : Plan → Reach → Bool
lacks_port plan reach = is_none reach.smbus_port && is_used Smbus (map bus_of_step plan.steps)

module _ {Stdout Stderr : Type 0} (out : Stdout → Option (List ℕ)) (err : Stderr → Option (List ℕ)) where
  -- it is said what came of it, with its status; or memory was refused, and nothing is said
  abbrev pub EndsBy : (json : Bool) → Result Applied AllocError → (old new : Console Stdout Stderr) → ℕ → Type 0
  EndsBy json (Ok applied) old new result = RunEnds out err (SaysOn (stream_for json) (status_of applied.outcome)) old new result
  EndsBy json (Err refused) old new result = RunEnds out err PrintsNothing old new result
