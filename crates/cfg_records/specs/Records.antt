-- Records, as a map from keys to values.
use Rattle.std.specs.Prelude.{ℕ, List, Option, Some, if◌then◌else◌, find, All, length, IsTrue}
use Rattle.std.specs.Option.{option_map}
use Rattle.record_base.specs.declared.key.Key.{Key}
use Rattle.record_base.specs.Keys.{same_key, is_length}
use Rattle.record_base.specs.Distinct.{NamesDiffer}

-- what each key has
abbrev pub Records : Type 0
Records = Key → Option (List ℕ)

-- the records with this value at the key
abbrev pub with_record : Records → Key → List ℕ → Records
with_record records key value = λ k. if same_key key k then Some value else records k

-- a key and its value
abbrev pub Pair : Type 0
Pair = Key × List ℕ

-- the pair's value
abbrev pub value_of : Pair → List ℕ
value_of pair = pair.1

-- the records of pairs: each key has the value that stands beside it first
abbrev pub records_of : List Pair → Records
records_of pairs = λ key. option_map value_of (find (λ pair. same_key pair.0 key) pairs)

-- the pair's key
abbrev pub key_in : Pair → Key
key_in pair = pair.0

-- no two pairs have the same key
abbrev pub KeysDiffer : List Pair → Type 0
KeysDiffer pairs = NamesDiffer key_in pairs

-- each value has a length of its key's kind
abbrev pub LengthsFit : List Pair → Type 0
LengthsFit pairs = All (λ pair. IsTrue (is_length pair.0 (length pair.1))) pairs
