-- Records of the System Event Log (IPMI 2.0).
use Rattle.std.specs.Prelude.{ℕ, nat_lt, Bool, List, ◌∷◌, ◌++◌, take, drop, slice_index, if◌then◌else◌}
use Rattle.std.specs.Int.{w16, w32, to_le_bytes, from_le_bytes}

-- how many bytes a record has
abbrev pub record_size : ℕ
record_size = 16

-- a record's id, its first two bytes
abbrev pub id_of : List ℕ → ℕ
id_of bytes = from_le_bytes w16 (take 2 bytes)

-- a record's type, its third byte
abbrev pub type_of : List ℕ → ℕ
type_of bytes = slice_index bytes 2

-- whether records of the type have a time, in the four bytes behind it
abbrev pub has_time : ℕ → Bool
has_time kind = nat_lt kind 0xE0

-- what is kept of a record that is added: its id and, where its type has one, its time are put in
abbrev pub kept : ℕ → ℕ → List ℕ → List ℕ
kept id time given =
    to_le_bytes w16 id ++ type_of given ∷ (if has_time (type_of given) then to_le_bytes w32 time ++ drop 7 given else drop 3 given)
