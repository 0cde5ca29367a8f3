-- The stages that a manager enters: of a step, of an undo, and after the reply to a task's request.
use Rattle.std.specs.Prelude.{◌≡◌, ℕ, Bool, List, length, take, slice_get, Some}
use Rattle.record_base.specs.declared.op.Op.{Op}
use Rattle.record_kinds.specs.Limits.{inverse}
use Rattle.undo_plans.specs.declared.names.Names.{Names}
use Rattle.undo_plans.specs.Requests.{RequestList}
use Rattle.model_undo.specs.Machine as machine
use Rattle.undo_core.specs.declared.entering.Reply.{Reply}
use Rattle.undo_core.specs.declared.stage.Task.{Task}
use Rattle.undo_core.specs.declared.stage.Task.TheVariants.{Gets, Sets, Undoes}
use Rattle.undo_core.specs.declared.stage.Stage.{Stage}
use Rattle.undo_core.specs.Shown.{words_of, backs, answered_in, IsTask, IsGot, IsStage}

-- the machine enters this stage as it comes to the step of the plan: the step's Get, or the plan's end, or a halt before the step
abbrev pub EntersStep : List Op → (stopped : Bool) → (step : ℕ) → Stage → Type 0
EntersStep plan stopped step stage = (names : Names) (requests : RequestList) (replies : List ℕ)
    → IsStage names plan requests replies stage (machine.next_stage (words_of names) stopped step (slice_get plan step))

-- the machine enters this stage while the first so many of these requests that undo are left
abbrev pub EntersUndo : RequestList → (left : ℕ) → Stage → Type 0
EntersUndo requests left stage = (names : Names) (plan : List Op) (replies : List ℕ)
    → IsStage names plan requests replies stage (machine.undo_stage (words_of names) (backs (take left requests.members)))

-- the machine enters this stage once a step's Get showed these data: the step's Set, or a halt before it
abbrev pub EntersSet : List Op → (stopped : Bool) → (step : ℕ) → (shown : List ℕ) → RequestList → Stage → Type 0
EntersSet plan stopped step shown requests stage = (names : Names) (op : Op) (replies : List ℕ) → slice_get plan step ≡ Some op
    → IsStage names plan requests replies stage (machine.set_stage (words_of names) stopped step op (inverse op shown))

-- The reply to a task's request came, after so many others of the task. Whatever task of the machine it is, the machine enters this stage, and has
-- these requests that undo.
pub record AfterTask (plan : List Op) (stopped : Bool) (task : Task) (parts : ℕ) (reply : Reply) (old new : RequestList) (before after : List ℕ) (entered : Stage) : Type 0 where
  pub stage : (names : Names) (of : machine.Task (words_of names)) (part : machine.Part (words_of names)) → IsTask names plan old task of → length part.before ≡ parts
      → IsGot task before part.before
      → IsStage names plan new after entered (machine.stage_after (words_of names) stopped plan (answered_in reply) of part)
  pub undo : (names : Names) (of : machine.Task (words_of names)) (part : machine.Part (words_of names)) → IsTask names plan old task of → length part.before ≡ parts
      → machine.undo_after (words_of names) (answered_in reply) of part (backs old.members) ≡ backs new.members

-- the reply to a request of a step's Get came
abbrev pub AfterGet : List Op → (stopped : Bool) → (step parts : ℕ) → Reply → (old new : RequestList) → (before after : List ℕ) → Stage → Type 0
AfterGet plan stopped step = AfterTask plan stopped (Gets step)

-- or of its Set, whatever replies to Gets came before
abbrev pub AfterSet : List Op → (stopped : Bool) → (step parts : ℕ) → Reply → (old new : RequestList) → Stage → Type 0
AfterSet plan stopped step parts reply old new entered = (any : List ℕ) → AfterTask plan stopped (Sets step) parts reply old new any any entered

-- or of those that undo a step, whatever the plan is
abbrev pub AfterUndo : (step parts : ℕ) → Reply → RequestList → Stage → Type 0
AfterUndo step parts reply requests entered = (plan : List Op) (stopped : Bool) (any : List ℕ)
    → AfterTask plan stopped (Undoes step) parts reply requests requests any any entered
