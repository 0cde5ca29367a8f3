-- What `after_of` and `Means` say of every board, at every value that a record can have.
use Rattle.std.specs.Prelude.{◌≡◌, ◌≢◌, ℕ, List, [], ◌∷◌}
use Rattle.record_base.specs.declared.live.Live.{Live}
use Rattle.record_base.specs.declared.op.Op.{Op}
use Rattle.record_kinds.specs.declared.limits.Limits.{Limits}
use Rattle.record_kinds.specs.Limits.{valid, sets, view, conf}
use Rattle.shown_records.specs.declared.meaning.Meaning.TheVariants.{Same, Changes}
use Rattle.shown_records.specs.After.{after_of}
use Rattle.shown_records.specs.Meaning.{Means}

-- ---- an operation

-- a record of these limits accepts the operation at a value that it can have, and has the new value then
pub record Takes (limits : Limits) (op : Op) (old new : List ℕ) : Type 0 where
  pub is_valid : valid limits old
  pub done : sets limits op old new

-- all that a Get shows then is what was foreseen of what it showed before, while the activity is the same
abbrev pub Foresees : Type 0
Foresees = (limits : Limits) (op : Op) (old new : List ℕ) (live : Live) → Takes limits op old new
    → view limits new live ≡ after_of op (view limits old live)

-- where the operation leaves the configuration that the Get shows, it leaves all that the Get shows
abbrev pub LeavesAll : Type 0
LeavesAll = (limits : Limits) (op : Op) (old new : List ℕ) (live : Live) → Takes limits op old new
    → conf limits (after_of op (view limits old live)) ≡ conf limits (view limits old live)
    → after_of op (view limits old live) ≡ view limits old live

-- where the operation leaves what the Get shows, and can be taken back, the record is what it was
abbrev pub StaysSame : Type 0
StaysSame = (limits : Limits) (op : Op) (old new : List ℕ) (live : Live) → Takes limits op old new
    → Means op (view limits old live) Same → new ≡ old

-- where it changes what the Get shows, and can be taken back, the record is another
abbrev pub ChangesRecord : Type 0
ChangesRecord = (limits : Limits) (op : Op) (old new : List ℕ) (live : Live) → Takes limits op old new
    → Means op (view limits old live) Changes → new ≢ old

-- ---- one operation after another

-- what a Get shows behind all of them
abbrev pub after_all : List Op → List ℕ → List ℕ
after_all [] shown = shown
after_all (op ∷ later) shown = after_all later (after_of op shown)

-- a record of these limits accepts each of them, and has the new value behind the last
abbrev pub TakesAll : Limits → List Op → (old new : List ℕ) → Type 0
TakesAll limits [] old new = new ≡ old
TakesAll limits (op ∷ later) old new = (between : List ℕ) × (sets limits op old between × TakesAll limits later between new)

-- the configuration that a Get shows then is the one that was foreseen of what it showed before the first, whatever the activity is and was
abbrev pub ForeseesAll : Type 0
ForeseesAll = (limits : Limits) (ops : List Op) (old new : List ℕ) (live other : Live) → valid limits old → TakesAll limits ops old new
    → conf limits (view limits new other) ≡ conf limits (after_all ops (view limits old live))
