-- Where records lie in a store.
use Rattle.std.specs.Prelude.{◌≡◌, ℕ, List, Option, Some, None, Bool, false, slice_get, IsTrue}
use Rattle.std.specs.Option.{option_map}
use Rattle.record_base.specs.declared.key.Key.{Key}
use Rattle.record_base.specs.Keys.{same_key}
use Rattle.cfg_records.specs.Records.{Pair, value_of}

-- the place is a key's
abbrev pub IsPlace : {P : Type 0} → (Key → Option P) → P → Type 0
IsPlace places place = (key : Key) × (places key ≡ Some place)

-- the value at a place of a list
abbrev pub value_at : List Pair → Option ℕ → Option (List ℕ)
value_at pairs (Some place) = option_map value_of (slice_get pairs place)
value_at pairs None = None

-- a pair with this key
abbrev pub has_key : Key → Option Pair → Bool
has_key key (Some pair) = same_key pair.0 key
has_key key None = false

-- at each key's place stands its pair
abbrev pub ArePlaced : List Pair → (Key → Option ℕ) → Type 0
ArePlaced pairs places = (key : Key) (place : ℕ) → places key ≡ Some place → IsTrue (has_key key (slice_get pairs place))
