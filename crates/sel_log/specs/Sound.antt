-- What holds of every log.
use Rattle.std.specs.Prelude.{◌≡◌, ℕ, ◌+◌, ◌≤◌, List, [], ◌∷◌, length}
use Rattle.sel_log.specs.Log.{IsCapacity}
use Rattle.sel_log.specs.LogRecord.{id_of}

-- the ids of the records count from this one
abbrev pub CountFrom : ℕ → List (List ℕ) → Type 0
CountFrom id [] = Unit {0}
CountFrom id (r ∷ behind) = (id_of r ≡ id) × CountFrom (id + 1) behind

-- no more records than the capacity, whose ids count from 0001h, and room for all in the list
pub record IsSoundLog (capacity room : ℕ) (records : List (List ℕ)) : Type 0 where
  pub within : IsCapacity capacity
  pub few : length records ≤ capacity
  pub reserved : capacity ≤ room
  pub counted : CountFrom 1 records
