-- A journal that lies somewhere can be written.
use Rattle.std.proofs.Common.{◌≡◌, ◌<◌, ◌≤◌, ◌+◌, ◌^◌, ℕ, true, false, List, length, arith, refl, Option, Some, None, IsSome, slice_get}
use Rattle.std.specs.Option.{option_and_then}
use Rattle.std.proofs.lemmas.Option.{slice_get_within}
use Rattle.record_base.specs.declared.op.Op.{Op}
use Rattle.record_base.specs.declared.message.Asked.{Asked}
use Rattle.undo_plans.specs.Requests.{RequestList}
use Rattle.undo_plans.specs.declared.kept_stage.KeptTask.{KeptTask}
use Rattle.undo_plans.specs.declared.kept_stage.KeptTask.TheVariants as task
use Rattle.undo_plans.specs.declared.kept_stage.KeptStage.{KeptStage}
use Rattle.undo_plans.specs.declared.kept_stage.KeptStage.TheVariants as stage
use Rattle.undo_plans.specs.Asking.{asked_at}
use Rattle.undo_plans.specs.KeptManager.{IsStageOf, waiting_at}
use Rattle.text_journal.specs.JournalLines.{stage_step}
use Rattle.text_journal.proofs.WrittenLines.{waiting_count}

-- the list as it is written: what waits is kept at a Set alone
abbrev pub kept_list : RequestList → KeptStage → RequestList
kept_list requests at = record { members = requests.members; waiting = waiting_at at requests.waiting; places = 0; room = 0 }

pub stands_so : (plan : List Op) (requests : RequestList) (at : KeptStage) → IsStageOf plan requests at → IsStageOf plan (kept_list requests at) at
stands_so plan requests (stage.Open (task.Get step) part) is = record { few = is.few; place = record { below = is.place.below; asks = is.place.asks; waits = tt } }
stands_so plan requests (stage.Open (task.Set step) part) is = record { few = is.few; place = record { below = is.place.below; asks = is.place.asks; waits = is.place.waits } }
stands_so plan requests (stage.Open (task.Undo step) part) is = record { few = is.few; place = record { below = is.place.below; asks = is.place.asks; waits = tt } }
stands_so plan requests stage.Fresh is = record { few = is.few; place = tt }
stands_so plan requests stage.Done is = record { few = is.few; place = tt }
stands_so plan requests (stage.Halted step why) is = record { few = is.few; place = is.place }
stands_so plan requests stage.Undone is = record { few = is.few; place = tt }
stands_so plan requests (stage.UndoRefused step code) is = record { few = is.few; place = is.place }

pub alone_so : (at : KeptStage) (waiting : Option Asked) → waiting_at at waiting ≡ waiting_at at (waiting_at at waiting)
alone_so (stage.Open (task.Get step) part) waiting = refl
alone_so (stage.Open (task.Set step) part) waiting = refl
alone_so (stage.Open (task.Undo step) part) waiting = refl
alone_so stage.Fresh waiting = refl
alone_so stage.Done waiting = refl
alone_so (stage.Halted step why) waiting = refl
alone_so stage.Undone waiting = refl
alone_so (stage.UndoRefused step code) waiting = refl

-- a place of which something is asked is in the list
within : {T U : Type 0} (xs : List T) (place : ℕ) (from : T → Option U) (found : Option T) → slice_get xs place ≡ found → IsSome (option_and_then from found) → place < length xs
within xs place from (Some x) is some = slice_get_within xs place x is
within xs place from None is none =
    let k : false ≡ true = none in cc k

step_there : (plan : List Op) (members : List Asked) (of : KeptTask) (part : ℕ) → length plan ≤ 256 → length members ≤ 256 → IsSome (asked_at plan members of part) → stage_step (stage.Open of part) < 256
step_there plan members (task.Get step) part few also asks = omega (arith, within plan step _ (slice_get plan step) refl asks, few)
step_there plan members (task.Set step) part few also asks = omega (arith, within plan step _ (slice_get plan step) refl asks, few)
step_there plan members (task.Undo step) part few also asks = omega (arith, within members step _ (slice_get members step) refl asks, also)

-- the stage's number fits a line
pub step_low : (plan : List Op) (requests : RequestList) (at : KeptStage) → length plan ≤ 256 → length requests.members ≤ 256 → IsStageOf plan requests at → stage_step at < 2 ^ 32
step_low plan requests stage.Fresh few also is = omega arith
step_low plan requests (stage.Open of part) few also is = omega (arith, step_there plan requests.members of part few also is.place.asks)
step_low plan requests stage.Done few also is = omega arith
step_low plan requests (stage.Halted step why) few also is = omega (arith, is.place)
step_low plan requests stage.Undone few also is = omega arith
step_low plan requests (stage.UndoRefused step code) few also is = omega (arith, is.place)

one_waits : (waiting : Option Asked) → waiting_count waiting ≤ 1
one_waits None = omega arith
one_waits (Some asked) = omega arith

-- and the list has a place for the one that waits
pub waiting_few : (plan : List Op) (requests : RequestList) (at : KeptStage) → length plan ≤ 256 → length requests.members ≤ 256 → IsStageOf plan requests at
    → waiting_count (waiting_at at requests.waiting) + length requests.members ≤ 256
waiting_few plan requests (stage.Open (task.Get step) part) few also is = omega (arith, also)
waiting_few plan requests (stage.Open (task.Set step) part) few also is =
    omega (arith, is.few, step_there plan requests.members (task.Set step) part few also is.place.asks, one_waits requests.waiting)
waiting_few plan requests (stage.Open (task.Undo step) part) few also is = omega (arith, also)
waiting_few plan requests stage.Fresh few also is = omega (arith, also)
waiting_few plan requests stage.Done few also is = omega (arith, also)
waiting_few plan requests (stage.Halted step why) few also is = omega (arith, also)
waiting_few plan requests stage.Undone few also is = omega (arith, also)
waiting_few plan requests (stage.UndoRefused step code) few also is = omega (arith, also)
