-- What the replies to a Get that goes in parts show together.
use Rattle.std.specs.Prelude.{◌≡◌, ℕ, zero, suc, ◌+◌, ◌*◌, ◌<◌, List, [], ◌∷◌, ◌++◌, length, Option, Some, None, if◌then◌else◌}
use Rattle.std.specs.List.{flat_map}
use Rattle.record_base.specs.declared.key.Key.{Key}
use Rattle.record_base.specs.declared.key.Key.TheVariants as key
use Rattle.record_base.specs.declared.message.Asked.{Asked}
use Rattle.pldm_base.specs.Parts.{part_length}
use Rattle.bios_attr.specs.EntryParts.{before_part, most_entry, entry_in, no_handle, start_and_end, get_part, goes_on, joined}

-- the data with the parts of an entry that these replies show
abbrev pub whole_of : List (List ℕ) → List ℕ
whole_of bodies = no_handle ++ start_and_end ∷ flat_map entry_in bodies

-- these replies came so far, and these are their data: where none came, they are any
abbrev pub AreJoined : (bytes : List ℕ) → (before : List (List ℕ)) → Type 0
AreJoined bytes [] = Unit {0}
AreJoined bytes (body ∷ bodies) = bytes ≡ whole_of (body ∷ bodies)

-- this holds of each list of so many replies whose data these are
abbrev pub ForJoined : (parts : ℕ) → (bytes : List ℕ) → (List (List ℕ) → Type 0) → Type 0
ForJoined parts bytes Holds = (before : List (List ℕ)) → length before ≡ parts → AreJoined bytes before → Holds before

-- the new data are those of the same replies with this one behind them
abbrev pub JoinsNext : (parts : ℕ) → (old body new : List ℕ) → Type 0
JoinsNext parts old body new = ForJoined parts old (λ before. new ≡ whole_of (before ++ body ∷ []))

-- and the data of the whole entry, where this reply is the last
abbrev pub JoinsLast : (parts : ℕ) → (old body new : List ℕ) → Type 0
JoinsLast parts old body new = ForJoined parts old (λ before. new ≡ joined (before ++ body ∷ []))

-- how many bytes the data of so many replies have at most
abbrev pub most_joined : ℕ → ℕ
most_joined zero = before_part + most_entry
most_joined (suc parts) = before_part + part_length * suc parts

-- the reply, as so many with those before it, is as long as one that shows a part with others behind it, and an entry goes on behind so many parts
pub record IsFullPart (count : ℕ) (body : List ℕ) : Type 0 where
  pub full : length body ≡ before_part + part_length
  pub goes_on : part_length * count < most_entry

-- the request for the next part of a record, after so many replies of which this is the last
abbrev pub get_after_reply : Key → (count : ℕ) → List ℕ → Option Asked
get_after_reply (key.BiosAttribute handle) count body = if goes_on count body then Some (get_part handle (part_length * count)) else None
get_after_reply _ count body = None
