-- What is so of a manager that is made of a journal.
use Rattle.std.proofs.Common.{◌≡◌, ℕ, zero, suc, ◌<◌, ◌≤◌, List, [], ◌∷◌, length, drop, Option, Some, None, sym, ◌∙◌, ap, subst, lit<, arith}
use Rattle.std.specs.Prelude.{slice_get}
use Rattle.std.specs.Option.{option_and_then}
use Rattle.record_base.specs.declared.op.Op.{Op}
use Rattle.record_base.specs.declared.message.Asked.{Asked}
use Rattle.undo_plans.specs.Requests.{RequestList}
use Rattle.undo_plans.specs.Fitting.{most_requests}
use Rattle.undo_plans.specs.Asking.{asked_at}
use Rattle.undo_plans.specs.Bounds.{most_kept}
use Rattle.undo_plans.specs.KeptManager.{Waits, IsPlaceOf}
use Rattle.undo_core.specs.declared.stage.Task.TheVariants.{Gets, Sets, Undoes}
use Rattle.undo_core.specs.declared.stage.Stage.{Stage}
use Rattle.undo_core.specs.declared.stage.Stage.TheVariants.{AtStart, Opened, AtEnd, AtHalt, AtUndone, AtRefused}
use Rattle.undo_core.specs.Bounds.{parts_at, most_replied, steps_needed, undone_needed, steps_ahead}
use Rattle.undo_core.specs.Room.{HasRoom, data_for}
use Rattle.undo_core.specs.Stages.{kept_task, kept_stage, resent_at}
use Rattle.undo_core.specs.Placed.{IsPlaced, IsUnsent}

-- what something is made of is there
there_at : {A B : Type 0} (f : A → Option B) (xs : List A) (k : ℕ) (made : B) → option_and_then f (slice_get xs k) ≡ Some made → k < length xs
there_at f [] k made is = let both : None ≡ Some made = is in cc both
there_at f (x ∷ xs) zero made is = omega arith
there_at f (x ∷ xs) (suc k) made is = omega (arith, there_at f xs k made is)

pub planned_by : (plan : List Op) (requests : RequestList) (t : Stage) → IsPlaced plan requests t → steps_needed t ≤ length plan
planned_by plan requests (Opened heeded (Gets step) parts asked) placed = omega (arith, there_at _ plan step asked placed.asks)
planned_by plan requests (Opened heeded (Sets step) parts asked) placed = omega (arith, there_at _ plan step asked placed.asks)
planned_by plan requests (Opened heeded (Undoes step) parts asked) placed = omega arith
planned_by plan requests AtStart placed = omega arith
planned_by plan requests AtEnd placed = omega arith
planned_by plan requests (AtHalt step why) placed = omega arith
planned_by plan requests AtUndone placed = omega arith
planned_by plan requests (AtRefused step code) placed = omega arith

pub kept_enough : (plan : List Op) (requests : RequestList) (t : Stage) → IsPlaced plan requests t → undone_needed t ≤ length requests.members
kept_enough plan requests (Opened heeded (Gets step) parts asked) placed = omega arith
kept_enough plan requests (Opened heeded (Sets step) parts asked) placed = omega arith
kept_enough plan requests (Opened heeded (Undoes step) parts asked) placed = omega (arith, there_at _ requests.members step asked placed.asks)
kept_enough plan requests AtStart placed = omega arith
kept_enough plan requests AtEnd placed = omega arith
kept_enough plan requests (AtHalt step why) placed = omega arith
kept_enough plan requests AtUndone placed = omega arith
kept_enough plan requests (AtRefused step code) placed = omega arith

pub parted_at : (plan : List Op) (requests : RequestList) (t : Stage) → IsPlaceOf plan requests (kept_stage t) → parts_at t < most_requests
parted_at plan requests (Opened heeded of parts asked) place = place.below
parted_at plan requests AtStart place = lit< tt
parted_at plan requests AtEnd place = lit< tt
parted_at plan requests (AtHalt step why) place = lit< tt
parted_at plan requests AtUndone place = lit< tt
parted_at plan requests (AtRefused step code) place = lit< tt

pub filled_at : (t : Stage) (replies : List ℕ) → length replies ≤ most_kept (kept_stage t) → length replies ≤ most_replied t
filled_at (Opened heeded (Gets step) zero asked) replies short = omega (arith, short)
filled_at (Opened heeded (Gets step) (suc parts) asked) replies short = short
filled_at (Opened heeded (Sets step) parts asked) replies short = omega (arith, short)
filled_at (Opened heeded (Undoes step) parts asked) replies short = omega (arith, short)
filled_at AtStart replies short = omega (arith, short)
filled_at AtEnd replies short = omega (arith, short)
filled_at (AtHalt step why) replies short = omega (arith, short)
filled_at AtUndone replies short = omega (arith, short)
filled_at (AtRefused step code) replies short = omega (arith, short)

pub placed_stays : (plan : List Op) (old new : RequestList) (t : Stage) → new.members ≡ old.members → new.waiting ≡ old.waiting → IsPlaced plan old t → IsPlaced plan new t
placed_stays plan old new (Opened heeded of parts asked) members waiting placed = record {
  asks = ap (λ (ms : List Asked). asked_at plan ms (kept_task of) parts) members ∙ placed.asks;
  waits = subst (λ (w : Option Asked). Waits w (kept_task of)) (sym waiting) placed.waits;
}
placed_stays plan old new AtStart members waiting placed = tt
placed_stays plan old new AtEnd members waiting placed = tt
placed_stays plan old new (AtHalt step why) members waiting placed = placed
placed_stays plan old new AtUndone members waiting placed = tt
placed_stays plan old new (AtRefused step code) members waiting placed = placed

pub unsent_at : (t : Stage) (retries resent : ℕ) → resent ≡ resent_at t retries → IsUnsent (kept_stage t) resent
unsent_at (Opened heeded of parts asked) retries resent is = tt
unsent_at AtStart retries resent is = is
unsent_at AtEnd retries resent is = is
unsent_at (AtHalt step why) retries resent is = is
unsent_at AtUndone retries resent is = is
unsent_at (AtRefused step code) retries resent is = is

-- ---- the room

less_data : (k : ℕ) (plan : List Op) → data_for (drop k plan) ≤ data_for plan
less_data zero plan = omega arith
less_data (suc k) [] = omega arith
less_data (suc k) (op ∷ plan) = omega (arith, less_data k plan)

fewer : (k : ℕ) (plan : List Op) → length (drop k plan) ≤ length plan
fewer zero plan = omega arith
fewer (suc k) [] = omega arith
fewer (suc k) (op ∷ plan) = omega (arith, fewer k plan)

room_behind : (k : ℕ) (plan : List Op) (requests : RequestList) → HasRoom plan requests → HasRoom (drop k plan) requests
room_behind k plan requests has = record { places = omega (arith, has.places, fewer k plan); room = omega (arith, has.room, less_data k plan) }

none_needed : (requests : RequestList) → HasRoom [] requests
none_needed requests = record { places = omega arith; room = omega arith }

-- room for all steps is room for those ahead
pub room_ahead : (plan : List Op) (requests : RequestList) (t : Stage) → HasRoom plan requests → HasRoom (steps_ahead plan t) requests
room_ahead plan requests AtStart has = has
room_ahead plan requests (Opened heeded (Gets step) parts asked) has = room_behind step plan requests has
room_ahead plan requests (Opened heeded (Sets step) parts asked) has = room_behind (suc step) plan requests has
room_ahead plan requests (Opened heeded (Undoes step) parts asked) has = none_needed requests
room_ahead plan requests AtEnd has = none_needed requests
room_ahead plan requests (AtHalt step why) has = none_needed requests
room_ahead plan requests AtUndone has = none_needed requests
room_ahead plan requests (AtRefused step code) has = none_needed requests
