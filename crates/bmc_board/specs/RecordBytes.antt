-- The bytes that records have.
use Rattle.std.specs.Prelude.{ℕ, List, [], Option, Some, None}
use Rattle.record_base.specs.declared.key.Key.{Key}
use Rattle.record_base.specs.declared.key.Key.TheVariants as key
use Rattle.cfg_records.specs.Records.{Records}

-- the bytes of a value; none where there is no value
abbrev pub bytes_of : Option (List ℕ) → List ℕ
bytes_of (Some value) = value
bytes_of None = []

-- the value of a record; no bytes where there is none
abbrev pub value_at : Records → Key → List ℕ
value_at records key = bytes_of (records key)

-- the values of attributes, as their records stand
abbrev pub values_in : Records → ℕ → List ℕ
values_in records handle = value_at records (key.BiosAttribute handle)
