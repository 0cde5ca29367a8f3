-- A manager that is called, and then driven over two links.
use Rattle.std.specs.Prelude.{◌≡◌, ◌⊎◌, ◌+◌, ◌<◌, ◌≤◌, ℕ, zero, suc, Bool, true, false, Option, Some, None, Result, Ok, Err}
use Rattle.undo_plans.specs.declared.plan.Plan.{Plan}
use Rattle.undo_plans.specs.declared.undo_list.UndoList.{UndoList}
use Rattle.model_undo.specs.declared.phase.Phase.{Phase}
use Rattle.model_undo.specs.declared.phase.Phase.TheVariants.{Done, Halted, Unsettled}
use Rattle.model_undo.specs.Machine.{phase_of}
use Rattle.model_lab.specs.Meaning.{lab_names}
use Rattle.model_lab.specs.ManagerSteps.{ManagerState, ManagerStepResult, board_plans, called}
use Rattle.model_undo.specs.declared.call.Call.{Call}
use Rattle.model_undo.specs.declared.call.Call.TheVariants.{Again}
use Rattle.undo_core.specs.declared.manager.Manager.{Manager}
use Rattle.undo_core.specs.Shown.{words_of, Represents, opened_with as opened_of, resumed_from as resumed_of, IsListOf as IsOwnList}
use Rattle.wire_links.specs.Counted.{none_counted}
use Rattle.bmc_ports.specs.declared.observer.KeptBack.{KeptBack}
use Rattle.bmc_ports.specs.Driving.{Links, both, DriveResult}
use Rattle.bmc_ports.specs.Observing.{DrivesTo, KeepsBack}

-- a manager of the lab's names
abbrev pub DrivenState : Type 0
DrivenState = ManagerState (board_plans lab_names)

-- links that have counted nothing
abbrev pub fresh_links : Links
fresh_links = both none_counted none_counted

-- the manager of a plan that it hasn't begun
abbrev pub opened_with : Plan → DrivenState
opened_with plan = opened_of lab_names plan.steps plan.retries

-- how often a manager sends a request again that goes on from a list
abbrev pub undo_retries : ℕ
undo_retries = 3

-- the manager that goes on from a list of requests that undo
abbrev pub resumed_from : UndoList → DrivenState
resumed_from list = resumed_of lab_names list undo_retries

-- where a drive ended: in a phase, or where a look kept frames back
abbrev pub DriveEnd : Type 0
DriveEnd = Result Phase KeptBack

-- nothing became of the manager and of its links
pub record RestsAt (before : DrivenState) (manager : Manager) (end : DriveEnd) (counted counts : Links) : Type 0 where
  pub shown : Represents lab_names manager before
  pub end_is : end ≡ Ok (phase_of (words_of lab_names) before.machine)
  pub same : counts ≡ counted

-- what comes of a call: what then becomes of the manager, or nothing, where the phase isn't one for the call
abbrev pub RunFrom : (DrivenState → Manager → DriveEnd → Links → Links → Type 0) → Option (ManagerStepResult (board_plans lab_names)) → DrivenState → Manager → DriveEnd → (counted counts : Links) → Type 0
RunFrom Becomes (Some deed) before = Becomes deed.manager
RunFrom Becomes None before = RestsAt before

-- ---- a manager that is called again where it is unsettled

-- a request is open, and isn't heeded
abbrev pub is_unsettled : Phase → Bool
is_unsettled (Unsettled step) = true
is_unsettled _ = false

-- The manager was driven for so many turns, and not before the last of them was it unsettled by one. In the last one frames may have been kept back.
pub record UpToLast (turns : ℕ) (before : DrivenState) (manager : Manager) (end : DriveEnd) (counted counts : Links) : Type 0 where
  pub fewer : ℕ
  pub one_more : suc fewer ≡ turns
  pub mid : Manager
  pub heeded : Phase
  pub met : Links
  pub first : DriveResult lab_names fewer before mid heeded counted met
  pub is_heeded : (fewer ≡ 0) ⊎ (is_unsettled heeded ≡ false)
  pub last : DrivesTo lab_names 1 first.after manager end met counts

-- The manager was driven for at most so many turns, and wasn't unsettled while some of them were left: it need not be called again. Or frames were
-- kept back before the first turn, or in one of them, and none before that left it unsettled.
abbrev pub StaysUndriven : (turns : ℕ) → DrivenState → Manager → DriveEnd → (counted counts : Links) → Type 0
StaysUndriven turns before manager (Ok phase) counted counts =
    (DriveResult lab_names turns before manager phase counted counts × ((is_unsettled phase ≡ false) ⊎ (turns ≡ 0)))
    ⊎ UpToLast turns before manager (Ok phase) counted counts
StaysUndriven turns before manager (Err kept) counted counts =
    KeepsBack lab_names 0 before manager counted counts ⊎ ((made : ℕ) × (made ≤ turns) × UpToLast made before manager (Err kept) counted counts)

-- A turn left the manager unsettled while others were left. It was called again, and that became of it in the turns that were left.
pub record RetriesFrom (Becomes : (left : ℕ) → DrivenState → Manager → DriveEnd → Links → Links → Type 0) (turns : ℕ) (before : DrivenState) (manager : Manager) (end : DriveEnd) (counted counts : Links) : Type 0 where
  pub made : ℕ
  pub left : ℕ
  pub all : made + left ≡ turns
  pub some_left : 0 < left
  pub mid : Manager
  pub stopped : Phase
  pub met : Links
  pub drives : UpToLast made before mid (Ok stopped) counted met
  pub unsettled : is_unsettled stopped ≡ true
  pub again : RunFrom (Becomes left) (called (board_plans lab_names) Again drives.last.after) drives.last.after manager end met counts

-- the manager was driven for at most so many turns, and called again, where a turn left it unsettled, up to so many times
abbrev pub DrivesAgain : (agains turns : ℕ) → DrivenState → Manager → DriveEnd → (counted counts : Links) → Type 0
DrivesAgain zero turns before manager end counted counts = DrivesTo lab_names turns before manager end counted counts
DrivesAgain (suc more) turns before manager end counted counts =
    StaysUndriven turns before manager end counted counts ⊎ RetriesFrom (DrivesAgain more) turns before manager end counted counts

-- ---- a manager that is called, and driven from then on

-- the manager, at this end, after at most so many turns and as many calls to try again
abbrev pub GoesAgain : (agains : ℕ) → Call → (turns : ℕ) → DrivenState → Manager → DriveEnd → (counted counts : Links) → Type 0
GoesAgain agains call turns before = RunFrom (DrivesAgain agains turns) (called (board_plans lab_names) call before) before

-- likewise, in this phase, and it was never called again
abbrev pub CallRun : Call → (turns : ℕ) → DrivenState → Manager → Phase → (counted counts : Links) → Type 0
CallRun call turns before manager phase = GoesAgain 0 call turns before manager (Ok phase)

-- the list is the manager's: what undoes the steps that were done, the numbers of its next requests, and its names
abbrev pub IsListOf : UndoList → DrivenState → Type 0
IsListOf list state = IsOwnList lab_names list state

-- whatever machine the manager shows, the list is its
abbrev pub HasList : Manager → UndoList → Type 0
HasList manager list = (state : DrivenState) → Represents lab_names manager state → IsListOf list state

-- the plan ended or halted, so its list undoes what was done
abbrev pub is_over : Phase → Bool
is_over Done = true
is_over (Halted step why) = true
is_over _ = false
