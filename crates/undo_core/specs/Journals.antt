-- What a manager keeps in its journal, of which machine this is the journal, and the manager that is made again of it.
use Rattle.std.specs.Prelude.{◌≡◌, ℕ, suc, ◌<◌, ◌∷◌, List, length, take, slice_get, Some}
use Rattle.std.specs.Option.{option_map}
use Rattle.record_kinds.specs.Series.{set_whole}
use Rattle.undo_plans.specs.declared.names.Names.{Names}
use Rattle.undo_plans.specs.declared.kept_stage.KeptTask.{KeptTask}
use Rattle.undo_plans.specs.declared.kept_stage.KeptTask.TheVariants.{Get, Set, Undo}
use Rattle.undo_plans.specs.declared.kept_stage.KeptStage.{KeptStage}
use Rattle.undo_plans.specs.declared.kept_stage.KeptStage.TheVariants.{Fresh, Open, Done, Halted, Undone, UndoRefused}
use Rattle.undo_plans.specs.Asking.{asked_at}
use Rattle.undo_plans.specs.KeptManager.{Kept, waiting_at, stopped_at, replies_at}
use Rattle.model_undo.specs.Machine as machine
use Rattle.model_lab.specs.ManagerSteps.{board_plans, ManagerState, remade}
use Rattle.undo_core.specs.declared.manager.Manager.{Manager}
use Rattle.undo_core.specs.Joining.{AreJoined}
use Rattle.undo_core.specs.Stages.{kept_stage}
use Rattle.undo_core.specs.Placed.{IsUnsent}
use Rattle.undo_core.specs.Shown.{words_of, own, backs, Represents, IsRemade}

-- what is kept of the manager
abbrev pub kept_by : Manager → Kept
kept_by manager = record {
  plan = manager.steps;
  retries = manager.retries;
  names = manager.names;
  listed = manager.undo.names;
  stage = kept_stage manager.stage;
  stopped = stopped_at (kept_stage manager.stage) manager.stopped;
  members = manager.undo.requests.members;
  waiting = waiting_at (kept_stage manager.stage) manager.undo.requests.waiting;
  counts = record { ipmb = manager.counts.ipmb; smbus = manager.counts.smbus };
  replies = replies_at (kept_stage manager.stage) manager.replies;
}

-- ---- of which machine a journal is

module _ (named : Names) (kept : Kept) where
  -- the task is the machine's. At a Set the request waits that undoes the step.
  abbrev pub IsKeptTask : KeptTask → machine.Task (words_of named) → Type 0
  IsKeptTask (Get step) (machine.Gets place op) = (place ≡ step) × (slice_get kept.plan step ≡ Some op)
  IsKeptTask (Set step) (machine.Sets place op back) = (place ≡ step) × (slice_get kept.plan step ≡ Some op) × (kept.waiting ≡ Some (set_whole back))
  IsKeptTask (Undo step) (machine.Undoes first rest) = (step < length kept.members) × (backs (take (suc step) kept.members) ≡ first ∷ rest)
  IsKeptTask _ _ = ⊥

  -- these data are what the replies to a Get show
  abbrev pub AreShown : KeptTask → (before : List (List ℕ)) → Type 0
  AreShown (Get step) before = AreJoined kept.replies before
  AreShown _ before = Unit {0}

  -- the machine's open request is the task's of this place, behind so many replies
  pub record IsKeptPart (task : KeptTask) (part : ℕ) (of : machine.Part (words_of named)) : Type 0 where
    pub asked : option_map (own named) (asked_at kept.plan kept.members task part) ≡ Some of.asked
    pub before : length of.before ≡ part
    pub shown : AreShown task of.before

  -- the stage is the machine's, heeded or not
  abbrev pub IsKeptStage : KeptStage → machine.Stage (words_of named) → Type 0
  IsKeptStage Fresh machine.AtStart = Unit {0}
  IsKeptStage (Open task part) (machine.Opened heeded of part_of) = IsKeptTask task of × IsKeptPart task part part_of
  IsKeptStage Done machine.AtEnd = Unit {0}
  IsKeptStage (Halted step why) (machine.AtHalt place cause) = (place ≡ step) × (cause ≡ why)
  IsKeptStage Undone machine.AtUndone = Unit {0}
  IsKeptStage (UndoRefused step code) (machine.AtRefused place number) = (place ≡ step) × (number ≡ code)
  IsKeptStage _ _ = ⊥

-- This is the journal of the machine: it says all but how often the open request was sent again, whether that is heeded, and what waits. Of a plan
-- that has a request open it says that the plan is to stop.
pub record IsJournalOf (named : Names) (kept : Kept) (state : ManagerState (board_plans named)) : Type 0 where
  pub names : kept.names ≡ named
  pub is_named : state.names ≡ named
  pub listed : state.listed ≡ kept.listed
  pub plan : state.machine.plan ≡ kept.plan
  pub retries : state.machine.retries ≡ kept.retries
  pub stage : IsKeptStage named kept kept.stage state.machine.stage
  pub stopped : stopped_at kept.stage state.machine.stopped ≡ kept.stopped
  pub resent : IsUnsent kept.stage state.machine.resent
  pub undo : state.machine.undo ≡ backs kept.members
  pub counts : state.machine.counts ≡ record { ipmb = kept.counts.ipmb; smbus = kept.counts.smbus }

-- ---- the manager that is made again

-- whatever machine this is the journal of, the manager shows that of one that is made again
abbrev pub IsRevived : Kept → Manager → Type 0
IsRevived kept manager = (names : Names) (state : ManagerState (board_plans names)) → IsJournalOf names kept state → Represents names manager (remade (board_plans names) state)

-- a manager that is made of the journal of another is one that is made again of it
abbrev pub RevivingIsRestarting : Type 0
RevivingIsRestarting = (old new : Manager) → IsRevived (kept_by old) new → IsRemade old new
