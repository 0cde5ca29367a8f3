-- The open request of a stage, and the stage as a journal has it.
use Rattle.std.specs.Prelude.{◌≡◌, ℕ, Bool, true, false}
use Rattle.two_wire.specs.declared.Bus.{Bus}
use Rattle.record_base.specs.declared.message.Asked.{Asked}
use Rattle.bmc_core.specs.Wires.{bus_of}
use Rattle.model_undo.specs.declared.phase.Why.{Why}
use Rattle.undo_core.specs.declared.stage.Task.{Task}
use Rattle.undo_core.specs.declared.stage.Stage.{Stage}
use Rattle.undo_core.specs.declared.stage.Task.TheVariants as task
use Rattle.undo_core.specs.declared.stage.Stage.TheVariants.{AtStart, Opened, AtEnd, AtHalt, AtUndone, AtRefused}
use Rattle.undo_plans.specs.declared.kept_stage.KeptTask.{KeptTask}
use Rattle.undo_plans.specs.declared.kept_stage.KeptTask.TheVariants.{Get, Set, Undo}
use Rattle.undo_plans.specs.declared.kept_stage.KeptStage.{KeptStage}
use Rattle.undo_plans.specs.declared.kept_stage.KeptStage.TheVariants.{Fresh, Open, Done, Halted, Undone, UndoRefused}

-- this request of a task is open
abbrev pub IsOpen : Stage → Asked → Type 0
IsOpen stage asked = (heeded : Bool) × (task : Task) × (parts : ℕ) × (stage ≡ Opened heeded task parts asked)

-- this holds of the open request, if one is open
abbrev pub ForOpen : Stage → (Asked → Type 0) → Type 0
ForOpen stage Holds = (heeded : Bool) (task : Task) (parts : ℕ) (asked : Asked) → stage ≡ Opened heeded task parts asked → Holds asked

-- this request is open on the bus, and is heeded
abbrev pub IsHeededOn : Bus → Stage → Asked → Type 0
IsHeededOn on stage asked = (task : Task) × (parts : ℕ) × (stage ≡ Opened true task parts asked) × (bus_of asked ≡ on)

-- this holds of the request that is open on the bus, if one is and is heeded
abbrev pub ForHeededOn : Bus → Stage → (Asked → Type 0) → Type 0
ForHeededOn on stage Holds = (task : Task) (parts : ℕ) (asked : Asked) → stage ≡ Opened true task parts asked → bus_of asked ≡ on → Holds asked

-- where a request is open, it isn't heeded
abbrev pub IsUnheeded : Stage → Type 0
IsUnheeded (Opened heeded task parts asked) = heeded ≡ false
IsUnheeded _ = Unit {0}

-- an open request that isn't heeded was sent again as often as is allowed
abbrev pub resent_at : Stage → (retries : ℕ) → ℕ
resent_at (Opened heeded task parts asked) retries = retries
resent_at _ retries = 0

-- the plan halted
abbrev pub IsHalted : Stage → Type 0
IsHalted stage = (step : ℕ) × (why : Why) × (stage ≡ AtHalt step why)

-- ---- as a journal has it

abbrev pub kept_task : Task → KeptTask
kept_task (task.Gets step) = Get step
kept_task (task.Sets step) = Set step
kept_task (task.Undoes step) = Undo step

abbrev pub kept_stage : Stage → KeptStage
kept_stage AtStart = Fresh
kept_stage (Opened heeded task parts asked) = Open (kept_task task) parts
kept_stage AtEnd = Done
kept_stage (AtHalt step why) = Halted step why
kept_stage AtUndone = Undone
kept_stage (AtRefused step code) = UndoRefused step code
