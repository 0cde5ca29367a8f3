-- What may be kept is a fact: it holds in one way at most.
use Rattle.std.proofs.Props.{props}
use Rattle.std.specs.Prelude.{ℕ, Bool, List}
use Rattle.record_base.specs.declared.op.Op.{Op}
use Rattle.undo_plans.specs.Requests.{RequestList}
use Rattle.undo_plans.specs.declared.kept_stage.Counts.{Counts}
use Rattle.undo_plans.specs.declared.kept_stage.KeptTask.TheVariants.{Get, Set, Undo}
use Rattle.undo_plans.specs.declared.kept_stage.KeptStage.{KeptStage}
use Rattle.undo_plans.specs.declared.kept_stage.KeptStage.TheVariants.{Fresh, Open, Done, Halted, Undone, UndoRefused}
use Rattle.undo_plans.specs.KeptManager.{IsSound}

pub IsSound-prop : (plan : List Op) (requests : RequestList) (at : KeptStage) (told : Bool) (answered : Counts) (shown : List ℕ) → IsProp (IsSound plan requests at told answered shown)
IsSound-prop plan requests Fresh told answered shown = hlevel props
IsSound-prop plan requests (Open (Get step) part) told answered shown = hlevel props
IsSound-prop plan requests (Open (Set step) part) told answered shown = hlevel props
IsSound-prop plan requests (Open (Undo step) part) told answered shown = hlevel props
IsSound-prop plan requests Done told answered shown = hlevel props
IsSound-prop plan requests (Halted step why) told answered shown = hlevel props
IsSound-prop plan requests Undone told answered shown = hlevel props
IsSound-prop plan requests (UndoRefused step code) told answered shown = hlevel props
