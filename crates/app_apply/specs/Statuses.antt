-- How calls end.
use Rattle.std.specs.Prelude.{Result, Ok, Err}
use Rattle.model_undo.specs.declared.phase.Phase.{Phase}
use Rattle.model_undo.specs.declared.phase.Phase.TheVariants as phase
use Rattle.app_base.specs.declared.status.Status.{Status}
use Rattle.app_base.specs.declared.status.Status.TheVariants as status
use Rattle.app_journal.specs.declared.files.WriteFault.{WriteFault}
use Rattle.app_apply.specs.declared.outcome.Outcome.{Outcome}
use Rattle.app_apply.specs.declared.outcome.Outcome.TheVariants as outcome

-- by the phase in which the manager is at the end, and whether a file couldn't be kept
abbrev pub status_at : Phase → Result (Unit {0}) WriteFault → Status
status_at (phase.Halted step why) kept = status.Halted
status_at (phase.Unsettled step) kept = status.Unsettled
status_at (phase.UndoRefused step code) kept = status.UndoRefused
status_at at (Err why) = status.RefusedFile
status_at phase.Done (Ok kept) = status.Success
status_at phase.Undone (Ok kept) = status.Success
status_at at (Ok kept) = status.Unsettled

-- and by why nothing was begun
abbrev pub status_of : Outcome → Status
status_of outcome.Held = status.RefusedFile
status_of (outcome.Occupied standing) = status.RefusedFile
status_of outcome.Empty = status.Success
status_of outcome.Unmade = status.RefusedFile
status_of outcome.Unkept = status.RefusedFile
status_of (outcome.Ungreeted why) = status.Unsettled
status_of outcome.NoLink = status.Stopped
status_of (outcome.Ended phase kept) = status_at phase kept
