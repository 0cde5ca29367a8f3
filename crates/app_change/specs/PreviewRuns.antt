-- The steps of a plan on a record of any board.
use Rattle.std.specs.Prelude.{◌≡◌, ◌≢◌, ℕ, List, [], ◌∷◌, Bool, true, false}
use Rattle.record_base.specs.declared.key.Key.{Key}
use Rattle.record_base.specs.declared.live.Live.{Live}
use Rattle.record_base.specs.declared.op.Op.{Op}
use Rattle.record_kinds.specs.declared.limits.Limits.{Limits}
use Rattle.record_kinds.specs.Limits.{conf, sets, valid, view}
use Rattle.shown_records.specs.declared.meaning.Meaning.TheVariants.{Same, Changes}
use Rattle.shown_records.specs.Meaning.{Means}
use Rattle.app_change.specs.Foreseeing.{can_go, left_behind}

-- the operation sets the record, or is none that is carried out, and leaves it
abbrev pub SetsOrLeaves : Limits → Op → (goes : Bool) → (old new : List ℕ) → Type 0
SetsOrLeaves limits op true old new = sets limits op old new
SetsOrLeaves limits op false old new = new ≡ old

-- A record of these limits and this name has a value, and another behind the steps: each that is on it, and that can be taken back where its Get
-- shows what it shows then, sets it.
abbrev pub Carries : Limits → Key → Live → (steps : List Op) → (old new : List ℕ) → Type 0
Carries limits key live [] old new = new ≡ old
Carries limits key live (op ∷ later) old new =
    (between : List ℕ) × SetsOrLeaves limits op (can_go key op (view limits old live)) old between × Carries limits key live later between new

-- all that the Get shows then is what was foreseen of what it showed before the first step, while the activity is the same
abbrev pub ForeseesSteps : Type 0
ForeseesSteps = (limits : Limits) (key : Key) (steps : List Op) (old new : List ℕ) (live : Live) → valid limits old
    → Carries limits key live steps old new → view limits new live ≡ left_behind key steps (view limits old live)

-- the configuration is the one that was foreseen, whatever the activity is then
abbrev pub ForeseesConfiguration : Type 0
ForeseesConfiguration = (limits : Limits) (key : Key) (steps : List Op) (old new : List ℕ) (live other : Live) → valid limits old
    → Carries limits key live steps old new → conf limits (view limits new other) ≡ conf limits (left_behind key steps (view limits old live))

-- one step more, which the record accepts behind the others, leaves it where that was foreseen to be its meaning, and makes another of it where
-- this was
abbrev pub MeansSo : Type 0
MeansSo = (limits : Limits) (key : Key) (steps : List Op) (op : Op) (old mid new : List ℕ) (live : Live) → valid limits old
    → Carries limits key live steps old mid → sets limits op mid new
    → (Means op (left_behind key steps (view limits old live)) Same → new ≡ mid)
    × (Means op (left_behind key steps (view limits old live)) Changes → new ≢ mid)
