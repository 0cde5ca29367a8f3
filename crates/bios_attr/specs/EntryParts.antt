-- The entry of an attribute in parts, as the requests of a Set carry it and the replies to a Get show it (DSP0247,
-- "SetBIOSAttributeCurrentValue" and "GetBIOSAttributeCurrentValueByHandle"). Data have a transfer handle, a flag, and an entry or a part of it.
use Rattle.std.specs.Prelude.{ℕ, ◌+◌, ◌*◌, ◌-◌, nat_le, nat_lt, List, [], ◌∷◌, ◌++◌, length, drop, Bool, true, false, not, ◌==◌, ◌&&◌, if◌then◌else◌, Option, Some, None}
use Rattle.std.specs.Int.{w32, to_le_bytes, from_le_bytes}
use Rattle.std.specs.List.{flat_map}
use Rattle.std.specs.Option.{option_map}
use Rattle.record_base.specs.Requests.{pldm_request, byte_at, bytes_at}
use Rattle.record_base.specs.AttributeSizes.{most_value}
use Rattle.record_base.specs.AttributeValue.{two_bytes}
use Rattle.record_base.specs.declared.message.Asked.{Asked}
use Rattle.record_base.specs.declared.message.Asked.TheVariants.{Ipmi, Pldm}
pub use Rattle.pldm_base.specs.Parts.{get_first_part, get_next_part}
use Rattle.pldm_base.specs.declared.table.TransferFlag.TheVariants.{StartAndEnd}
use Rattle.pldm_base.specs.Parts.{part_length, part_bytes, is_last, next_handle, flag_of, flag_byte, most_whole, goes_whole}

-- ---- what requests say

-- the PLDM type of BIOS control and configuration, and the commands that set and get an attribute's value
abbrev pub bios : ℕ
bios = 0x03

abbrev pub set_current_value : ℕ
set_current_value = 0x07

abbrev pub get_current_value : ℕ
get_current_value = 0x08

-- the transfer flag of data that is whole
abbrev pub start_and_end : ℕ
start_and_end = flag_byte StartAndEnd

-- a transfer handle that stands for nothing
abbrev pub no_handle : List ℕ
no_handle = 0 ∷ 0 ∷ 0 ∷ 0 ∷ []

-- the transfer handle in the data of a request
abbrev pub transfer_handle : List ℕ → ℕ
transfer_handle body = from_le_bytes w32 (bytes_at 4 body 0)

-- how many bytes an attribute's entry has before its value: the attribute, and its type
abbrev pub before_entry_value : ℕ
before_entry_value = 3

-- how many bytes it has at most
abbrev pub most_entry : ℕ
most_entry = before_entry_value + most_value

-- how many bytes stand before an entry or its part in the data: the transfer handle and the flag
abbrev pub before_part : ℕ
before_part = 5

-- the data of a Set that goes whole have at least a byte more
abbrev pub least_set : ℕ
least_set = before_part + 1

-- the entry, or its part, in the data
abbrev pub entry_in : List ℕ → List ℕ
entry_in body = drop before_part body

-- the part of an entry at an offset, behind this handle and its flag
abbrev pub part_with : ℕ → List ℕ → ℕ → List ℕ
part_with handle entry offset = to_le_bytes w32 handle ++ flag_byte (flag_of (offset == 0) (is_last entry offset)) ∷ part_bytes entry offset

-- ---- a Set: its data, and those of its parts

-- the data of a part of a Set: its handle counts the bytes before it
abbrev pub set_part : List ℕ → ℕ → List ℕ
set_part entry offset = part_with offset entry offset

-- the data are whole, and their entry goes in parts
abbrev pub goes_in_parts : List ℕ → Bool
goes_in_parts body = (byte_at body 4 == start_and_end) && not (goes_whole (entry_in body))

-- the request sets an attribute, and goes in parts
abbrev pub is_in_parts : Asked → Bool
is_in_parts (Ipmi from net_fn lun command body) = false
is_in_parts (Pldm from kind command body) = (kind == bios && command == set_current_value) && goes_in_parts body

-- the data of the request of this place, counted from 0, among those that carry the data of a Set: none past the last
abbrev pub part_at : List ℕ → ℕ → Option (List ℕ)
part_at body place = if nat_lt (part_length * place) (length (entry_in body)) then Some (set_part (entry_in body) (part_length * place)) else None

-- the entry in a request's data
abbrev pub entry_of : Asked → List ℕ
entry_of (Ipmi from net_fn lun command body) = entry_in body
entry_of (Pldm from kind command body) = entry_in body

-- the data of the first request: all, or the first part
abbrev pub first_body : List ℕ → List ℕ
first_body body = if goes_in_parts body then set_part (entry_in body) 0 else body

-- the first of the requests that carry a request out: itself, or its first part
abbrev pub first_request : Asked → Asked
first_request (Ipmi from net_fn lun command body) = Ipmi from net_fn lun command body
first_request (Pldm from kind command body) = Pldm from kind command (if is_in_parts (Pldm from kind command body) then set_part (entry_in body) 0 else body)

-- the one of this place among them, counted from 0: none past the last
abbrev pub alone_at : Asked → ℕ → Option Asked
alone_at asked place = if place == 0 then Some asked else None

abbrev pub request_at : Asked → ℕ → Option Asked
request_at (Ipmi from net_fn lun command body) place = alone_at (Ipmi from net_fn lun command body) place
request_at (Pldm from kind command body) place =
    if is_in_parts (Pldm from kind command body) then option_map (Pldm from kind command) (part_at body place) else alone_at (Pldm from kind command body) place

-- the same request with other data
abbrev pub with_body : Asked → List ℕ → Asked
with_body (Ipmi from net_fn lun command body) other = Ipmi from net_fn lun command other
with_body (Pldm from kind command body) other = Pldm from kind command other

-- ---- a Get

-- what the first reply shows, of the data that show the whole entry: all, or the first part
abbrev pub first_part : List ℕ → List ℕ
first_part shown = if goes_whole (entry_in shown) then shown else part_with (next_handle (entry_in shown) 0) (entry_in shown) 0

-- the request for the part of an attribute's entry behind so many bytes
abbrev pub get_part : (handle transfer : ℕ) → Asked
get_part handle transfer = pldm_request bios get_current_value (to_le_bytes w32 transfer ++ get_next_part ∷ two_bytes handle)

-- the last of the replies
abbrev pub last_of : List (List ℕ) → List ℕ
last_of [] = []
last_of (body ∷ []) = body
last_of (body ∷ other ∷ bodies) = last_of (other ∷ bodies)

-- A reply, as so many with those before it, shows a part of an entry with others behind it. So do replies that `entry_part` gives.
abbrev pub goes_on : (count : ℕ) → List ℕ → Bool
goes_on count body =
    (byte_at body 4 == flag_byte (flag_of (count == 1) false)) && (length body == before_part + part_length)
    && ((transfer_handle body == part_length * count) && nat_lt (part_length * count) most_entry)

-- it shows the last part of an entry that goes in parts
abbrev pub ends : (count : ℕ) → List ℕ → Bool
ends count body =
    (byte_at body 4 == flag_byte (flag_of false true)) && (transfer_handle body == 0)
    && ((nat_lt before_part (length body) && nat_le (length body) (before_part + part_length))
    && (nat_lt most_whole (part_length * (count - 1) + (length body - before_part)) && nat_le (part_length * (count - 1) + (length body - before_part)) most_entry))

-- the request for the part behind those that these replies show, where there is one
abbrev pub get_after : (handle : ℕ) → (bodies : List (List ℕ)) → Option Asked
get_after handle bodies = if goes_on (length bodies) (last_of bodies) then Some (get_part handle (part_length * length bodies)) else None

-- what the replies to a Get show together: the only one its data; others the data with the whole entry, unless the last of them isn't its last part
abbrev pub joined : List (List ℕ) → List ℕ
joined (body ∷ []) = body
joined bodies = if ends (length bodies) (last_of bodies) then no_handle ++ start_and_end ∷ flat_map entry_in bodies else []
