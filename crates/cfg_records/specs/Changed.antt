-- How many records have another value than they began with.
use Rattle.std.specs.Prelude.{ℕ, Bool, false, not, List, length, filter, Option, Some, None}
use Rattle.std.specs.Str.{bytes_eq}
use Rattle.cfg_records.specs.Records.{Records, Pair}

-- what a record has is this value
abbrev pub is_value : List ℕ → Option (List ℕ) → Bool
is_value value None = false
is_value value (Some other) = bytes_eq other value

-- how many of the records that a board began with have another value in these
abbrev pub changed_in : Records → List Pair → ℕ
changed_in records start = length (filter (λ pair. not (is_value pair.1 (records pair.0))) start)
