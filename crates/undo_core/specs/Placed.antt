-- What is so of each stage that a manager is at.
use Rattle.std.specs.Prelude.{◌≡◌, ℕ, ◌<◌, ◌≤◌, List, Some}
use Rattle.record_base.specs.declared.op.Op.{Op}
use Rattle.record_base.specs.declared.message.Asked.{Asked}
use Rattle.undo_plans.specs.Requests.{RequestList}
use Rattle.undo_plans.specs.Steps.{most_steps}
use Rattle.undo_plans.specs.Asking.{asked_at}
use Rattle.undo_plans.specs.KeptManager.{Waits}
use Rattle.undo_plans.specs.declared.kept_stage.KeptStage.{KeptStage}
use Rattle.undo_plans.specs.declared.kept_stage.KeptStage.TheVariants.{Open}
use Rattle.undo_core.specs.declared.stage.Task.{Task}
use Rattle.undo_core.specs.declared.stage.Stage.{Stage}
use Rattle.undo_core.specs.declared.stage.Stage.TheVariants.{AtStart, Opened, AtEnd, AtHalt, AtUndone, AtRefused}
use Rattle.undo_core.specs.Stages.{kept_task}

-- this is the task's request of this place, and the request that undoes the step waits while its Set is open
pub record IsAskedAt (plan : List Op) (requests : RequestList) (task : Task) (parts : ℕ) (asked : Asked) : Type 0 where
  pub asks : asked_at plan requests.members (kept_task task) parts ≡ Some asked
  pub waits : Waits requests.waiting (kept_task task)

-- the open request is its task's of its place, and a step is one that a plan or a list can have
abbrev pub IsPlaced : List Op → RequestList → Stage → Type 0
IsPlaced plan requests AtStart = Unit {0}
IsPlaced plan requests (Opened heeded task parts asked) = IsAskedAt plan requests task parts asked
IsPlaced plan requests AtEnd = Unit {0}
IsPlaced plan requests (AtHalt step why) = step ≤ most_steps
IsPlaced plan requests AtUndone = Unit {0}
IsPlaced plan requests (AtRefused step code) = step < most_steps

-- whatever list of requests that undo the manager has
abbrev pub IsPlacedIn : List Op → Stage → Type 0
IsPlacedIn plan stage = (any : RequestList) → IsPlaced plan any stage

-- whatever the plan is
abbrev pub IsPlacedAmong : RequestList → Stage → Type 0
IsPlacedAmong requests stage = (any : List Op) → IsPlaced any requests stage

-- where no request is open, none was sent again
abbrev pub IsUnsent : KeptStage → (resent : ℕ) → Type 0
IsUnsent (Open task part) resent = Unit {0}
IsUnsent _ resent = resent ≡ 0
