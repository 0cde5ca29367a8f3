-- A manager that is called, and driven until its work ends or a request has no answer.
use Rattle.std.specs.Prelude.{◌≡◌, ◌⊎◌, ℕ, zero, suc, true, Ok}
use Rattle.model_undo.specs.declared.call.Call.{Call}
use Rattle.model_undo.specs.declared.call.Call.TheVariants.{Start, Again, Undo}
use Rattle.model_undo.specs.declared.phase.Phase.{Phase}
use Rattle.model_lab.specs.Meaning.{lab_names}
use Rattle.model_lab.specs.ManagerSteps.{board_plans, called}
use Rattle.undo_core.specs.declared.manager.Manager.{Manager}
use Rattle.bmc_ports.specs.Driving.{Links}
use Rattle.app_run.specs.Driven.{DriveEnd, DrivenState, RunFrom, StaysUndriven, UpToLast, is_unsettled}
use Rattle.app_apply.specs.declared.driving.Calling.{Calling}
use Rattle.app_apply.specs.declared.driving.Calling.TheVariants as calling

-- the call that begins the plan, the one that settles an open request, and the one that takes back what was done
abbrev pub call_for : Calling → Call
call_for calling.Start = Start
call_for calling.Settle = Again
call_for calling.Undo = Undo

-- a turn left the manager unsettled, and it was driven no further
pub record LeftUnsettled (before : DrivenState) (manager : Manager) (end : DriveEnd) (counted counts : Links) : Type 0 where
  pub made : ℕ
  pub stopped : Phase
  pub end_is : end ≡ Ok stopped
  pub drives : UpToLast made before manager (Ok stopped) counted counts
  pub unsettled : is_unsettled stopped ≡ true

-- The manager was driven until no request was open, or a turn left it unsettled. It made at most so many turns, or a look kept frames back.
abbrev pub EndsDrive : (turns : ℕ) → DrivenState → Manager → DriveEnd → (counted counts : Links) → Type 0
EndsDrive turns before manager end counted counts =
    StaysUndriven turns before manager end counted counts ⊎ LeftUnsettled before manager end counted counts

-- a turn left it unsettled; it was called again, and that became of it
pub record TakenUp (Becomes : DrivenState → Manager → DriveEnd → Links → Links → Type 0) (before : DrivenState) (manager : Manager) (end : DriveEnd) (counted counts : Links) : Type 0 where
  pub made : ℕ
  pub mid : Manager
  pub stopped : Phase
  pub met : Links
  pub drives : UpToLast made before mid (Ok stopped) counted met
  pub unsettled : is_unsettled stopped ≡ true
  pub again : RunFrom Becomes (called (board_plans lab_names) Again drives.last.after) drives.last.after manager end met counts

-- The manager was driven so, and up to so many times it was called again where a turn left it unsettled, and driven so once more.
abbrev pub DrivesOut : (agains turns : ℕ) → DrivenState → Manager → DriveEnd → (counted counts : Links) → Type 0
DrivesOut zero turns before manager end counted counts = EndsDrive turns before manager end counted counts
DrivesOut (suc more) turns before manager end counted counts =
    StaysUndriven turns before manager end counted counts ⊎ TakenUp (DrivesOut more turns) before manager end counted counts

-- the manager was called so, and driven from then on
abbrev pub GoesOut : (agains : ℕ) → Call → (turns : ℕ) → DrivenState → Manager → DriveEnd → (counted counts : Links) → Type 0
GoesOut agains call turns before = RunFrom (DrivesOut agains turns) (called (board_plans lab_names) call before) before
