-- How far a manager's numbers go.
use Rattle.std.specs.Prelude.{ℕ, suc, ◌<◌, ◌≤◌, List, [], length, drop}
use Rattle.record_base.specs.declared.op.Op.{Op}
use Rattle.undo_plans.specs.Requests.{RequestList}
use Rattle.undo_core.specs.declared.stage.Task.{Task}
use Rattle.undo_core.specs.declared.stage.Task.TheVariants.{Gets, Sets, Undoes}
use Rattle.undo_core.specs.declared.stage.Stage.{Stage}
use Rattle.undo_core.specs.declared.stage.Stage.TheVariants.{AtStart, Opened}
use Rattle.undo_core.specs.Joining.{most_joined}
use Rattle.undo_core.specs.Stages.{kept_task, kept_stage}
use Rattle.undo_plans.specs.Bounds as kept
pub use Rattle.undo_plans.specs.Bounds.{replies_of_step, most_replies}

-- how many requests of the stage's task were answered
abbrev pub parts_at : Stage → ℕ
parts_at (Opened heeded task parts asked) = parts
parts_at _ = 0

-- how many bytes the replies to a Get show at most, while a task's request is open after so many others
abbrev pub most_got : Task → ℕ → ℕ
most_got (Gets step) parts = most_joined parts
most_got _ parts = most_joined 0

abbrev pub most_replied : Stage → ℕ
most_replied (Opened heeded task parts asked) = most_got task parts
most_replied _ = most_joined 0

-- how many steps the plan has at least
abbrev pub task_steps : Task → ℕ
task_steps (Gets step) = suc step
task_steps (Sets step) = suc step
task_steps (Undoes step) = 0

abbrev pub steps_needed : Stage → ℕ
steps_needed (Opened heeded task parts asked) = task_steps task
steps_needed _ = 0

-- how many requests that undo there are at least
abbrev pub task_undone : Task → ℕ
task_undone (Gets step) = 0
task_undone (Sets step) = 0
task_undone (Undoes step) = suc step

abbrev pub undone_needed : Stage → ℕ
undone_needed (Opened heeded task parts asked) = task_undone task
undone_needed _ = 0

-- how many there are at most
abbrev pub task_backs : Task → ℕ
task_backs task = kept.task_backs (kept_task task)

abbrev pub most_backs : Stage → ℕ
most_backs stage = kept.most_backs (kept_stage stage)

-- how many replies the manager may still take, of a plan of so many steps, with so many requests that undo, once it took so many of this task's
abbrev pub task_left : (steps backs : ℕ) → Task → (parts : ℕ) → ℕ
task_left steps backs task parts = kept.task_left steps backs (kept_task task) parts

abbrev pub replies_left : (steps backs : ℕ) → Stage → ℕ
replies_left steps backs stage = kept.replies_left steps backs (kept_stage stage)

-- how many replies are left to a plan with these requests that undo
abbrev pub left_at : List Op → RequestList → Stage → ℕ
left_at plan requests stage = replies_left (length plan) (length requests.members) stage

-- and while a task's request is open, after so many others
abbrev pub left_of : List Op → RequestList → Task → (parts : ℕ) → ℕ
left_of plan requests task parts = task_left (length plan) (length requests.members) task parts

-- fewer replies are left at the stage, with these requests that undo, than while the task's request is open after so many others, with the old ones
abbrev pub FewerAreLeft : List Op → (old new : RequestList) → Task → (parts : ℕ) → Stage → Type 0
FewerAreLeft plan old new task parts stage = left_at plan new stage < left_of plan old task parts

-- whatever requests undo, fewer replies are left at the stage than while the task's request is open after so many others
abbrev pub LeavesFewer : List Op → Task → (parts : ℕ) → Stage → Type 0
LeavesFewer plan task parts stage = (any : RequestList) → left_at plan any stage < left_of plan any task parts

-- or no more are left
abbrev pub LeavesNoMore : List Op → Task → (parts : ℕ) → Stage → Type 0
LeavesNoMore plan task parts stage = (any : RequestList) → left_at plan any stage ≤ left_of plan any task parts

-- the steps of a plan whose requests that undo are still to be written
abbrev pub task_ahead : List Op → Task → List Op
task_ahead plan (Gets step) = drop step plan
task_ahead plan (Sets step) = drop (suc step) plan
task_ahead plan (Undoes step) = []

abbrev pub steps_ahead : List Op → Stage → List Op
steps_ahead plan AtStart = plan
steps_ahead plan (Opened heeded task parts asked) = task_ahead plan task
steps_ahead plan _ = []
