-- The requests of a series, as a controller reads them.
use Rattle.std.specs.Prelude.{◌≡◌, ◌<◌, ◌*◌, ◌^◌, ℕ, zero, suc, List, Bool, true, false, Some, Ok}
use Rattle.pldm_base.specs.Parts.{part_length, part_bytes, is_last}
use Rattle.record_base.specs.declared.op.Op.{Op}
use Rattle.record_base.specs.declared.message.Asked.{Asked}
use Rattle.record_kinds.specs.Limits.{set_asked}
use Rattle.record_kinds.specs.Series.{Series, Reads, Sends, set_whole, first_of, next_after}
use Rattle.bios_attr.specs.EntryParts.{is_in_parts, entry_of, first_request, request_at, get_part}
use Rattle.record_kinds.specs.declared.set_part.SetPart.{SetPart}
use Rattle.record_kinds.specs.declared.set_part.SetPart.TheVariants.{Start, Middle, End}
use Rattle.bmc_board.specs.Request.{PartOfSet, LaterPart, asked_by}
use Rattle.bmc_board.specs.Decode.{sent_by, IsFromNobody, AsksRequest}

-- ---- a Set in parts

-- the part of an entry at an offset, behind others, by whether it is the last
abbrev pub part_behind : (last : Bool) → List ℕ → (offset : ℕ) → SetPart
part_behind true entry offset = End offset (part_bytes entry offset)
part_behind false entry offset = Middle offset (part_bytes entry offset)

-- the part in the request of this place, counted from 0
abbrev pub part_in_place : List ℕ → ℕ → SetPart
part_in_place entry zero = Start (part_bytes entry 0)
part_in_place entry (suc place) = part_behind (is_last entry (part_length * suc place)) entry (part_length * suc place)

-- each request of an operation in parts is read as its requester's part of that place
abbrev pub PartsAreRead : Type 0
PartsAreRead = (op : Op) (from place : ℕ) (asked : Asked) → is_in_parts (set_whole op) ≡ true → request_at (set_whole op) place ≡ Some asked
    → asked_by (sent_by from asked) ≡ Ok (PartOfSet from (part_in_place (entry_of (set_whole op)) place))

-- the kind's own request is the first of the series
pub record IsFirst (op : Op) : Type 0 where
  pub first : first_request (set_whole op) ≡ set_asked op
  pub in_place : request_at (set_whole op) 0 ≡ Some (set_asked op)

abbrev pub SetsBegin : Type 0
SetsBegin = (op : Op) → IsFirst op

-- ---- a Get in parts

-- the request for a later part of an attribute's entry is read as that
abbrev pub LaterPartsAreRead : Type 0
LaterPartsAreRead = (handle transfer : ℕ) → transfer < 2 ^ 32 → AsksRequest (get_part handle transfer) (LaterPart handle transfer)

-- ---- who asks

-- the series carries out a request of nobody, or gets a record
abbrev pub IsOfNobody : Series → Type 0
IsOfNobody (Reads key) = Unit {0}
IsOfNobody (Sends asked) = IsFromNobody asked

-- then each of its requests is from nobody
pub record AreFromNobody (series : Series) : Type 0 where
  pub first : IsFromNobody (first_of series)
  pub next : (bodies : List (List ℕ)) (asked : Asked) → next_after series bodies ≡ Some asked → IsFromNobody asked

abbrev pub SeriesAreFromNobody : Type 0
SeriesAreFromNobody = (series : Series) → IsOfNobody series → AreFromNobody series
