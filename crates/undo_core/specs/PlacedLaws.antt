-- What is so of each stage is a fact: it holds in one way at most.
use Rattle.std.proofs.Props.{props}
use Rattle.std.specs.Prelude.{ℕ, List}
use Rattle.record_base.specs.declared.op.Op.{Op}
use Rattle.undo_plans.specs.Requests.{RequestList}
use Rattle.undo_plans.specs.declared.kept_stage.KeptStage.{KeptStage}
use Rattle.undo_plans.specs.declared.kept_stage.KeptStage.TheVariants.{Fresh, Open, Done, Halted, Undone, UndoRefused}
use Rattle.undo_core.specs.declared.stage.Task.TheVariants.{Gets, Sets, Undoes}
use Rattle.undo_core.specs.declared.stage.Stage.{Stage}
use Rattle.undo_core.specs.declared.stage.Stage.TheVariants.{AtStart, Opened, AtEnd, AtHalt, AtUndone, AtRefused}
use Rattle.undo_core.specs.Placed.{IsPlaced, IsUnsent}

pub IsPlaced-prop : (plan : List Op) (requests : RequestList) (stage : Stage) → IsProp (IsPlaced plan requests stage)
IsPlaced-prop plan requests AtStart = hlevel props
IsPlaced-prop plan requests (Opened heeded (Gets step) parts asked) = hlevel props
IsPlaced-prop plan requests (Opened heeded (Sets step) parts asked) = hlevel props
IsPlaced-prop plan requests (Opened heeded (Undoes step) parts asked) = hlevel props
IsPlaced-prop plan requests AtEnd = hlevel props
IsPlaced-prop plan requests (AtHalt step why) = hlevel props
IsPlaced-prop plan requests AtUndone = hlevel props
IsPlaced-prop plan requests (AtRefused step code) = hlevel props

pub IsUnsent-prop : (at : KeptStage) (resent : ℕ) → IsProp (IsUnsent at resent)
IsUnsent-prop Fresh resent = hlevel props
IsUnsent-prop (Open task part) resent = hlevel props
IsUnsent-prop Done resent = hlevel props
IsUnsent-prop (Halted step why) resent = hlevel props
IsUnsent-prop Undone resent = hlevel props
IsUnsent-prop (UndoRefused step code) resent = hlevel props
