-- What is kept of a manager: what another one is made of once the process of the first ended.
use Rattle.std.specs.Prelude.{◌≡◌, ℕ, suc, ◌+◌, ◌<◌, ◌≤◌, Bool, true, List, [], length, Option, IsSome, None}
use Rattle.record_base.specs.declared.op.Op.{Op}
use Rattle.record_base.specs.declared.message.Asked.{Asked}
use Rattle.undo_plans.specs.Steps.{most_steps}
use Rattle.undo_plans.specs.Fitting.{most_requests}
use Rattle.undo_plans.specs.Requests.{RequestList}
use Rattle.undo_plans.specs.declared.names.Names.{Names}
use Rattle.undo_plans.specs.declared.kept_stage.Counts.{Counts}
use Rattle.undo_plans.specs.declared.kept_stage.KeptTask.{KeptTask}
use Rattle.undo_plans.specs.declared.kept_stage.KeptTask.TheVariants.{Get, Set, Undo}
use Rattle.undo_plans.specs.declared.kept_stage.KeptStage.{KeptStage}
use Rattle.undo_plans.specs.declared.kept_stage.KeptStage.TheVariants.{Fresh, Open, Done, Halted, Undone, UndoRefused}
use Rattle.undo_plans.specs.Asking.{asked_at}
use Rattle.undo_plans.specs.Bounds.{most_backs, most_kept, replies_left, most_replies}

-- ---- what may be kept

-- the request that undoes the step waits while its Set is open
abbrev pub Waits : Option Asked → KeptTask → Type 0
Waits waiting (Get step) = Unit {0}
Waits waiting (Set step) = IsSome waiting
Waits waiting (Undo step) = Unit {0}

-- a request of this place of the task can be open
pub record IsTaskOf (plan : List Op) (requests : RequestList) (task : KeptTask) (part : ℕ) : Type 0 where
  pub below : part < most_requests
  pub asks : IsSome (asked_at plan requests.members task part)
  pub waits : Waits requests.waiting task

abbrev pub IsPlaceOf : List Op → RequestList → KeptStage → Type 0
IsPlaceOf plan requests Fresh = Unit {0}
IsPlaceOf plan requests (Open task part) = IsTaskOf plan requests task part
IsPlaceOf plan requests Done = Unit {0}
IsPlaceOf plan requests (Halted step why) = step ≤ most_steps
IsPlaceOf plan requests Undone = Unit {0}
IsPlaceOf plan requests (UndoRefused step code) = step < most_steps

-- it can be the stage of a manager with this plan and these requests that undo
pub record IsStageOf (plan : List Op) (requests : RequestList) (stage : KeptStage) : Type 0 where
  pub few : length requests.members ≤ most_backs stage
  pub place : IsPlaceOf plan requests stage

-- a plan is to stop that has a request open
abbrev pub IsToldToStop : KeptStage → (stopped : Bool) → Type 0
IsToldToStop (Open (Get step) part) stopped = stopped ≡ true
IsToldToStop (Open (Set step) part) stopped = stopped ≡ true
IsToldToStop _ stopped = Unit {0}

-- with what the counts say, and with the replies that the manager may still take, there are no more replies than a manager takes
abbrev pub AreFew : (steps backs : ℕ) → KeptStage → Counts → Type 0
AreFew steps backs stage counts = counts.ipmb + counts.smbus + replies_left steps backs stage ≤ most_replies

-- all this is of one manager
pub record IsSound (plan : List Op) (requests : RequestList) (at : KeptStage) (told : Bool) (answered : Counts) (shown : List ℕ) : Type 0 where
  pub stage : IsStageOf plan requests at
  pub stopped : IsToldToStop at told
  pub counts : AreFew (length plan) (length requests.members) at answered
  pub replies : length shown ≤ most_kept at

-- ---- what is kept

pub record Kept : Type 0 where
  -- the plan, and how often the frames of a request may be sent again
  pub plan : List Op
  pub retries : ℕ
  -- the names of the manager, and those in its list of requests that undo
  pub names : Names
  pub listed : Option Names
  -- how far it is, and whether the plan is to stop
  pub stage : KeptStage
  pub stopped : Bool
  -- what undoes the steps that were done, in their order, and what undoes the step whose Set is open
  pub members : List Asked
  pub waiting : Option Asked
  -- how many of its requests were answered
  pub counts : Counts
  -- what the replies to the open Get show so far
  pub replies : List ℕ

-- a request waits while a Set is open alone
abbrev pub waiting_at : KeptStage → Option Asked → Option Asked
waiting_at (Open (Set step) part) waiting = waiting
waiting_at _ waiting = None

-- a plan that has a request open is to stop once the manager is made again
abbrev pub stopped_at : KeptStage → (stopped : Bool) → Bool
stopped_at (Open (Get step) part) stopped = true
stopped_at (Open (Set step) part) stopped = true
stopped_at _ stopped = stopped

-- replies show something while a Get is open, behind its first request
abbrev pub replies_at : KeptStage → List ℕ → List ℕ
replies_at (Open (Get step) (suc part)) replies = replies
replies_at _ replies = []
