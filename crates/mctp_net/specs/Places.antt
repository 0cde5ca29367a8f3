-- The places in which an assembler keeps what waits.
use Rattle.std.specs.Prelude.{◌≡◌, ◌⊎◌, ℕ, ◌+◌, ◌/◌, ◌%◌, ◌<◌, ◌≤◌, zero, suc, ◌==◌, Bool, true, false, not, if◌then◌else◌, List, [], ◌∷◌, length, take, drop, filter, slice_index_or, All, Option, Some, None, slice_get}
use Rattle.std.specs.List.{flat_map}
use Rattle.std.specs.Option.{option_map_or}
use Rattle.two_wire.specs.Sizes.{most_message_bytes}
use Rattle.mctp_net.specs.Sizes.{unit_size, most_assemblies}
use Rattle.mctp_net.specs.declared.packet.Name.{Name}
use Rattle.mctp_net.specs.declared.place.Place.{Place}
use Rattle.mctp_net.specs.Cut.{Piece}
use Rattle.mctp_net.specs.Assembly.{Assemblies, is_name}

-- both are one name, or none
abbrev pub is_at : Option Name → Option Name → Bool
is_at (Some name) (Some other) = is_name name other
is_at (Some name) None = false
is_at None (Some other) = false
is_at None None = true

-- so many pieces that wait, from this number on: runs of a unit
abbrev pub runs_from : ℕ → ℕ → List ℕ → List Piece
runs_from number zero bytes = []
runs_from number (suc count) bytes = record { start = number == 0; end = false; sequence = number; payload = take unit_size bytes } ∷ runs_from (number + 1) count (drop unit_size bytes)

-- the pieces that wait in a place
abbrev pub runs : List ℕ → List Piece
runs bytes = runs_from 0 (length bytes / unit_size) bytes

-- what a place has of a name's pieces
abbrev pub part : Name → Place → List Piece
part name place = if is_at place.name (Some name) then runs place.bytes else []

-- what waits under each name
abbrev pub under_in : List Place → Name → List Piece
under_in ps name = flat_map (part name) ps

-- a place with nothing in it
abbrev pub free_place : Place
free_place = record { name = None; bytes = [] }

-- somebody's message is in the place
abbrev pub is_used : Place → Bool
is_used place = not (is_at place.name None)

-- how many places are used
abbrev pub open_in : List Place → ℕ
open_in ps = length (filter is_used ps)

-- the bytes in this place, or none
abbrev pub made_in : List Place → Option ℕ → List ℕ
made_in ps None = []
made_in ps (Some number) = option_map_or (λ place. place.bytes) (slice_get ps number) []

-- what is kept in the places
abbrev pub assemblies_in : List Place → Option ℕ → Assemblies
assemblies_in ps made = record { under = under_in ps; open_count = open_in ps; made = made_in ps made }

-- what an assembler is
pub record KeptAssembly : Type 0 where
  pub places : List Place
  pub made : Option ℕ

-- what it keeps
abbrev pub seen : KeptAssembly → Assemblies
seen kept = assemblies_in kept.places kept.made

-- a place that is used has some runs of a unit
abbrev pub IsFilled : Place → Type 0
IsFilled place = is_used place ≡ true → (0 < length place.bytes) × (length place.bytes % unit_size ≡ 0)

-- there are eight places, each of another name or free
pub record AreSoundPlaces (ps : List Place) : Type 0 where
  pub eight : length ps ≡ most_assemblies
  pub filled : All IsFilled ps
  pub fits : All (λ place. length place.bytes ≤ most_message_bytes) ps
  pub apart : (name : Name) → length (filter (λ place. is_at place.name (Some name)) ps) ≤ 1

-- the place is the one of the name, or a free one; none where there is none
abbrev pub IsPlaceOf : Option Name → List Place → Option ℕ → Type 0
IsPlaceOf name ps None = filter (λ place. is_at place.name name) ps ≡ []
IsPlaceOf name ps (Some number) = (number < length ps) × ((place : Place) → is_at (slice_index_or ps number place).name name ≡ true)

-- the place is the name's, or it's free and the name has none
abbrev pub IsRoomFor : Name → List Place → ℕ → Type 0
IsRoomFor name ps number = IsPlaceOf (Some name) ps (Some number) ⊎ (IsPlaceOf (Some name) ps None × IsPlaceOf None ps (Some number))
