-- What the kept steps of a plan make of a record of any board.
use Rattle.std.specs.Prelude.{◌≡◌, ℕ, List, [], ◌∷◌, true}
use Rattle.record_base.specs.declared.key.Key.{Key}
use Rattle.record_base.specs.declared.live.Live.{Live}
use Rattle.record_base.specs.declared.op.Op.{Op}
use Rattle.record_base.specs.Keys.{same_key}
use Rattle.record_kinds.specs.declared.limits.Limits.{Limits}
use Rattle.record_kinds.specs.Limits.{key_of, valid, view}
use Rattle.app_look.specs.declared.records.Came.{Came}
use Rattle.app_look.specs.declared.records.Came.TheVariants as came
use Rattle.app_look.specs.declared.records.Found.{Found}
use Rattle.app_change.specs.PreviewRuns.{Carries}
use Rattle.app_change.specs.Kept.{kept_of}

-- what was found is what the Get of a record of this value shows, whatever the activity was, or that its Get was refused
abbrev pub IsFoundAt : Limits → (value : List ℕ) → Came → Type 0
IsFoundAt limits value (came.Shown shown) = (live : Live) × (shown.items ≡ view limits value live)
IsFoundAt limits value (came.Refused code) = Unit {0}

-- that was found for each of the steps that is on the record
abbrev pub AreFoundAt : Limits → Key → (value : List ℕ) → (steps : List Op) → List Found → Type 0
AreFoundAt limits key value (op ∷ steps) (of ∷ found) =
    (same_key (key_of op) key ≡ true → IsFoundAt limits value of.came) × AreFoundAt limits key value steps found
AreFoundAt limits key value [] [] = Unit {0}
AreFoundAt limits key value _ _ = ⊥

-- Where the steps of a plan lead a record from the value that was found of it to another, those that are kept lead it from the same to the same.
abbrev pub KeptLeadAlike : Type 0
KeptLeadAlike = (limits : Limits) (key : Key) (steps : List Op) (found : List Found) (old new : List ℕ) (live : Live) → valid limits old
    → AreFoundAt limits key old steps found → Carries limits key live steps old new → Carries limits key live (kept_of steps found) old new
