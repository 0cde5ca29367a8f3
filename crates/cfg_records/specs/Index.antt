-- Where the record of each key lies.
use Rattle.std.specs.Prelude.{ℕ, Option, Some, None, [], slice_index_or}
use Rattle.std.specs.BTreeMap as btree
use Rattle.record_base.specs.declared.key.Key.{Key}
use Rattle.cfg_records.specs.declared.index.Index.{Index}
use Rattle.cfg_records.specs.declared.index.SensorPlaces.{SensorPlaces}
use Rattle.record_base.specs.Keys.{key_cmp, slot}

-- the place that the tables have there
abbrev pub place_at : SensorPlaces → (ℕ × ℕ) → Option ℕ
place_at places at = slice_index_or (slice_index_or places.tables at.0 []) at.1 None

-- the place in the tables for a key that has a slot, and in the map for any other
abbrev pub place_in : Index → Option (ℕ × ℕ) → Key → Option ℕ
place_in index (Some at) key = place_at index.sensors.value at
place_in index None key = btree.get key_cmp index.others key

-- the place of the key's record
abbrev pub place_of : Index → Key → Option ℕ
place_of index key = place_in index (slot key) key
