-- Records in one byte image. A record has two bytes with its value's length, the low one first, and then room for the longest value of its kind.
use Rattle.std.specs.Prelude.{◌≡◌, ℕ, ◌+◌, ◌*◌, ◌/◌, ◌%◌, ◌<◌, ◌≤◌, List, length, slice_index, take, drop, Option, Some, IsTrue}
use Rattle.std.specs.Option.{option_map}
use Rattle.record_base.specs.declared.key.Key.{Key}
use Rattle.record_base.specs.Keys.{same_key, is_length}
use Rattle.cfg_records.specs.Records.{Records}

-- the length of the value that lies at this offset
abbrev pub length_at : List ℕ → ℕ → ℕ
length_at bytes at = slice_index bytes at + 256 * slice_index bytes (at + 1)

-- the value that lies there
abbrev pub value_at : List ℕ → ℕ → List ℕ
value_at bytes at = take (length_at bytes at) (drop (at + 2) bytes)

-- where each key's record lies
abbrev pub Offsets : Type 0
Offsets = Key → Option ℕ

-- the records of an image
abbrev pub records_in : List ℕ → Offsets → Records
records_in bytes offsets = λ key. option_map (value_at bytes) (offsets key)

-- the bytes are an image: each key's record has a value of its kind, and room for any value of its kind, up to the next record
pub record IsImage (bytes : List ℕ) (offsets : Offsets) : Type 0 where
  pub of_kind : (key : Key) (at : ℕ) → offsets key ≡ Some at → IsTrue (is_length key (length_at bytes at))
  pub within : (key : Key) (at n : ℕ) → offsets key ≡ Some at → IsTrue (is_length key n) → at + 2 + n ≤ length bytes
  pub apart : (key other : Key) (at next n : ℕ) → offsets key ≡ Some at → offsets other ≡ Some next → at < next → IsTrue (is_length key n) → at + 2 + n ≤ next
  pub own : (key other : Key) (at : ℕ) → offsets key ≡ Some at → offsets other ≡ Some at → IsTrue (same_key key other)

-- a value and its length were written at an offset, and nothing else
pub record WroteAt (old new : List ℕ) (at : ℕ) (value : List ℕ) : Type 0 where
  pub same_length : length new ≡ length old
  pub low : slice_index new at ≡ length value % 256
  pub high : slice_index new (at + 1) ≡ length value / 256
  pub body : (k : ℕ) → k < length value → slice_index new (at + 2 + k) ≡ slice_index value k
  pub before : (k : ℕ) → k < at → slice_index new k ≡ slice_index old k
  pub behind : (k : ℕ) → at + 2 + length value ≤ k → slice_index new k ≡ slice_index old k

-- a record was added behind the bytes: the value with its length, in this much room
pub record HasAdded (old new : List ℕ) (room : ℕ) (value : List ℕ) : Type 0 where
  pub longer : length new ≡ length old + 2 + room
  pub low : slice_index new (length old) ≡ length value % 256
  pub high : slice_index new (length old + 1) ≡ length value / 256
  pub body : (k : ℕ) → k < length value → slice_index new (length old + 2 + k) ≡ slice_index value k
  pub before : (k : ℕ) → k < length old → slice_index new k ≡ slice_index old k
