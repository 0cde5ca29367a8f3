-- How far the numbers of a manager go at a stage.
use Rattle.std.specs.Prelude.{ℕ, zero, suc, ◌+◌, ◌-◌, ◌*◌, ◌<◌}
use Rattle.pldm_base.specs.Parts.{part_length}
use Rattle.bios_attr.specs.EntryParts.{before_part}
use Rattle.undo_plans.specs.Steps.{most_steps}
use Rattle.undo_plans.specs.Fitting.{most_requests}
use Rattle.undo_plans.specs.declared.kept_stage.KeptTask.{KeptTask}
use Rattle.undo_plans.specs.declared.kept_stage.KeptTask.TheVariants.{Get, Set, Undo}
use Rattle.undo_plans.specs.declared.kept_stage.KeptStage.{KeptStage}
use Rattle.undo_plans.specs.declared.kept_stage.KeptStage.TheVariants.{Fresh, Open, Done, Halted, Undone, UndoRefused}

-- the step is one of so many, or of so many requests that undo
abbrev pub IsStepOf : (steps backs : ℕ) → KeptTask → Type 0
IsStepOf steps backs (Get step) = step < steps
IsStepOf steps backs (Set step) = step < steps
IsStepOf steps backs (Undo step) = step < backs

-- how many requests that undo there are at most
abbrev pub task_backs : KeptTask → ℕ
task_backs (Get step) = step
task_backs (Set step) = step
task_backs (Undo step) = most_steps

abbrev pub most_backs : KeptStage → ℕ
most_backs Fresh = 0
most_backs (Open task part) = task_backs task
most_backs _ = most_steps

-- how many bytes are kept of the replies to the open Get at most, after so many
abbrev pub most_shown : (part : ℕ) → ℕ
most_shown zero = 0
most_shown (suc part) = before_part + part_length * suc part

abbrev pub most_kept : KeptStage → ℕ
most_kept (Open (Get step) part) = most_shown part
most_kept _ = 0

-- how many replies a manager takes for a step at most: to its Gets, to its Sets, and to the requests that undo it
abbrev pub replies_of_step : ℕ
replies_of_step = 3 * most_requests

-- how many it takes at most: those for each step of a plan, and those to the requests that undo the steps of a list
abbrev pub most_replies : ℕ
most_replies = replies_of_step * most_steps + most_requests * most_steps

-- how many replies the manager may still take, of a plan of so many steps, with so many requests that undo, once it took so many of this task's
abbrev pub task_left : (steps backs : ℕ) → KeptTask → (part : ℕ) → ℕ
task_left steps backs (Get step) part = replies_of_step * (steps - step) - part + most_requests * backs
task_left steps backs (Set step) part = replies_of_step * (steps - step) - most_requests - part + most_requests * backs
task_left steps backs (Undo step) part = most_requests * suc step - part

abbrev pub replies_left : (steps backs : ℕ) → KeptStage → ℕ
replies_left steps backs Fresh = replies_of_step * steps
replies_left steps backs (Open task part) = task_left steps backs task part
replies_left steps backs Done = most_requests * backs
replies_left steps backs (Halted step why) = most_requests * backs
replies_left steps backs Undone = 0
replies_left steps backs (UndoRefused step code) = 0
