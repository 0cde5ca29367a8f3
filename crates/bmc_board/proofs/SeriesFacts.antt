-- The requests of a series are read as what the series does.
use Rattle.std.proofs.Common.{◌≡◌, ℕ, zero, suc, ◌*◌, ◌^◌, ◌<◌, ◌≤◌, nat_lt, subst, List, ◌∷◌, ◌++◌, length, drop, Bool, true, false, not, if◌then◌else◌, ◌==◌, Option, Some, None, Result, Ok, Err, refl, arith}
use Rattle.std.specs.Int.{w32, to_le_bytes}
use Rattle.std.specs.Option.{option_map}
use Rattle.std.proofs.lemmas.Bool.Decides.{nat_tests}
use Rattle.std.proofs.lemmas.Option.{same_Some}
use Rattle.std.proofs.lemmas.List.{length-take, length-drop}
use Rattle.std.proofs.lemmas.Nat.{from_le_bytes-to_le_bytes_4}
use Rattle.two_wire.specs.Codes.{pldm_invalid_length}
use Rattle.pldm_base.specs.Parts.{part_length, part_bytes, is_last, flag_of, flag_byte, goes_whole}
use Rattle.record_base.specs.declared.key.Key.{Key}
use Rattle.record_base.specs.declared.key.Key.TheVariants as key
use Rattle.record_base.specs.declared.op.Op.TheVariants as op
use Rattle.record_base.specs.declared.message.Asked.{Asked}
use Rattle.record_base.specs.declared.message.Asked.TheVariants.{Ipmi, Pldm}
use Rattle.record_base.specs.AttributeRangeLaws.{le_true, number_back}
use Rattle.record_base.specs.declared.bios_attribute.SetBiosAttribute.{SetBiosAttribute}
use Rattle.record_kinds.specs.Series.{Reads, Sends, next_after}
use Rattle.bios_attr.specs.BiosAttribute.{op_entry, attribute_body}
use Rattle.bios_attr.specs.EntryParts.{bios, set_current_value, goes_in_parts, part_at, set_part, is_in_parts, first_request, alone_at, request_at, get_part, goes_on, last_of}
use Rattle.record_kinds.specs.declared.set_part.SetPart.{SetPart}
use Rattle.record_kinds.specs.declared.set_part.SetPart.TheVariants.{Start, Middle, End}
use Rattle.bmc_board.specs.AttributeCommands.{part_set}
use Rattle.bmc_board.specs.Request.{Request, PartOfSet, LaterPart, asked_by}
use Rattle.bmc_board.specs.Decode.{sent_by, IsFromNobody}
use Rattle.bmc_board.specs.SeriesRead.{part_behind, part_in_place, PartsAreRead, SetsBegin, LaterPartsAreRead, SeriesAreFromNobody}
use Rattle.bmc_board.proofs.Decoded.{gets_are_read}

-- ---- a request with a part

-- the request that carries these bytes, with this flag
abbrev with_part : (from offset flag : ℕ) → List ℕ → Asked
with_part from offset flag bytes = Pldm from bios set_current_value (to_le_bytes w32 offset ++ flag ∷ bytes)

-- by whether the data have a length that the command takes, and whether they are too short for a part or for a first one
abbrev start_where : (allowed short cut : Bool) → ℕ → SetPart → Result Request ℕ
start_where allowed short cut from part =
    if allowed then part_set from (if short then Err pldm_invalid_length else (if cut then Err pldm_invalid_length else Ok part)) else Err pldm_invalid_length

abbrev later_where : (allowed short : Bool) → ℕ → SetPart → Result Request ℕ
later_where allowed short from part = if allowed then part_set from (if short then Err pldm_invalid_length else Ok part) else Err pldm_invalid_length

not_less : (n m : ℕ) → m ≤ n → nat_lt n m ≡ false
not_less n m le = grind (arith, nat_tests)

start_read : (from offset : ℕ) (bytes : List ℕ) → 3 ≤ length bytes → asked_by (with_part from offset 1 bytes) ≡ Ok (PartOfSet from (Start bytes))
start_read from offset bytes few =
    let size : ℕ = length (to_le_bytes w32 offset ++ 1 ∷ bytes) in
    λ i. start_where (le_true 6 size (omega (arith, few)) i) (not_less size 6 (omega (arith, few)) i) (not_less size 8 (omega (arith, few)) i) from (Start bytes)

middle_read : (from offset : ℕ) (bytes : List ℕ) → offset < 2 ^ 32 → 1 ≤ length bytes → asked_by (with_part from offset 2 bytes) ≡ Ok (PartOfSet from (Middle offset bytes))
middle_read from offset bytes fits few =
    let size : ℕ = length (to_le_bytes w32 offset ++ 2 ∷ bytes) in
    λ i. later_where (le_true 6 size (omega (arith, few)) i) (not_less size 6 (omega (arith, few)) i) from (Middle (from_le_bytes-to_le_bytes_4 offset fits i) bytes)

end_read : (from offset : ℕ) (bytes : List ℕ) → offset < 2 ^ 32 → 1 ≤ length bytes → asked_by (with_part from offset 4 bytes) ≡ Ok (PartOfSet from (End offset bytes))
end_read from offset bytes fits few =
    let size : ℕ = length (to_le_bytes w32 offset ++ 4 ∷ bytes) in
    λ i. later_where (le_true 6 size (omega (arith, few)) i) (not_less size 6 (omega (arith, few)) i) from (End (from_le_bytes-to_le_bytes_4 offset fits i) bytes)

-- ---- by the part's place

-- a first part has others behind it
first_read : (from : ℕ) (last : Bool) (bytes : List ℕ) → last ≡ false → 3 ≤ length bytes → asked_by (with_part from 0 (flag_byte (flag_of true last)) bytes) ≡ Ok (PartOfSet from (Start bytes))
first_read from true bytes is few = cc
first_read from false bytes is few = start_read from 0 bytes few

behind_read : (from : ℕ) (first last : Bool) (entry : List ℕ) (offset : ℕ) → first ≡ false → offset < 2 ^ 32 → 1 ≤ length (part_bytes entry offset)
    → asked_by (with_part from offset (flag_byte (flag_of first last)) (part_bytes entry offset)) ≡ Ok (PartOfSet from (part_behind last entry offset))
behind_read from true last entry offset is fits few = cc
behind_read from false true entry offset is fits few = end_read from offset (part_bytes entry offset) fits few
behind_read from false false entry offset is fits few = middle_read from offset (part_bytes entry offset) fits few

not_zero : (place : ℕ) → (part_length * suc place == 0) ≡ false
not_zero place = grind (arith, nat_tests)

-- a part that begins within its entry has bytes
some_bytes : (entry : List ℕ) (offset : ℕ) → offset < length entry → 1 ≤ length (part_bytes entry offset)
some_bytes entry offset within = omega (arith, within, length-take part_length (drop offset entry), length-drop offset entry)

-- the first part of an entry that goes in parts has more bytes than an attribute and a type, and isn't the last
many_bytes : (entry : List ℕ) → not (goes_whole entry) ≡ true → 205 < length entry
many_bytes entry long = grind (arith, nat_tests, long)

first_long : (entry : List ℕ) → 205 < length entry → 3 ≤ length (part_bytes entry 0)
first_long entry long = omega (arith, long, length-take part_length entry)

not_last : (entry : List ℕ) → 205 < length entry → is_last entry 0 ≡ false
not_last entry long = grind (arith, nat_tests, long)

part_read : (from place : ℕ) (entry : List ℕ) → 205 < length entry → length entry < 2 ^ 32 → part_length * place < length entry
    → asked_by (Pldm from bios set_current_value (set_part entry (part_length * place))) ≡ Ok (PartOfSet from (part_in_place entry place))
part_read from zero entry long fits within = first_read from (is_last entry 0) (part_bytes entry 0) (not_last entry long) (first_long entry long)
part_read from (suc place) entry long fits within =
    behind_read from (part_length * suc place == 0) (is_last entry (part_length * suc place)) entry (part_length * suc place) (not_zero place) (omega (arith, fits, within)) (some_bytes entry (part_length * suc place) within)

-- ---- an operation in parts

-- from the tests of whether the operation goes in parts, and whether there is a request of the place
parts_where : (b : Bool) (found alone : Option Asked) (asked : Asked) → b ≡ true → (if b then found else alone) ≡ Some asked → found ≡ Some asked
parts_where true found alone asked is at = at
parts_where false found alone asked is at = cc

sent_at : (b : Bool) (part : List ℕ) (asked : Asked) → option_map (Pldm 0 bios set_current_value) (if b then Some part else None) ≡ Some asked → (b ≡ true) × (Pldm 0 bios set_current_value part ≡ asked)
sent_at true part asked at = (refl, same_Some _ _ at)
sent_at false part asked at = cc

is_less : (n m : ℕ) → nat_lt n m ≡ true → n < m
is_less n m h = grind (arith, nat_tests)

-- an entry of an operation is none that handles don't reach
reached : (o : SetBiosAttribute) → length (op_entry o) < 2 ^ 32
reached o = omega (arith, o.fits)

pub parts_are_read : PartsAreRead
parts_are_read (op.BiosAttribute o) from place asked is at =
    let entry : List ℕ = op_entry o in
    let body : List ℕ = attribute_body o in
    let found : option_map (Pldm 0 bios set_current_value) (part_at body place) ≡ Some asked = parts_where (goes_in_parts body) _ (alone_at (Pldm 0 bios set_current_value body) place) asked is at in
    let sent = sent_at (nat_lt (part_length * place) (length entry)) (set_part entry (part_length * place)) asked found in
    subst (λ (a : Asked). asked_by (sent_by from a) ≡ Ok (PartOfSet from (part_in_place entry place))) sent.1
    (part_read from place entry (many_bytes entry is) (reached o) (is_less _ _ sent.0))
parts_are_read _ from place asked is at = cc

first_where : (b within : Bool) (body other : List ℕ) → within ≡ true
    → (if b then option_map (Pldm 0 bios set_current_value) (if within then Some other else None) else Some (Pldm 0 bios set_current_value body)) ≡ Some (Pldm 0 bios set_current_value (if b then other else body))
first_where true true body other is = refl
first_where false true body other is = refl
first_where b false body other is = cc

some_entry : (n : ℕ) → nat_lt 0 (suc n) ≡ true
some_entry n = grind (arith, nat_tests)

pub sets_begin : SetsBegin
sets_begin (op.BiosAttribute o) = record { first = refl; in_place = first_where (goes_in_parts (attribute_body o)) (nat_lt 0 (length (op_entry o))) (attribute_body o) (set_part (op_entry o) 0) (some_entry _) }
sets_begin _ = record { first = refl; in_place = refl }

-- ---- a later part of a Get

pub later_parts_are_read : LaterPartsAreRead
later_parts_are_read handle transfer fits = record {
  is_read = λ i. Ok (LaterPart (number_back handle i) (from_le_bytes-to_le_bytes_4 transfer fits i));
  from_nobody = refl;
}

-- ---- who asks

alone_from : (asked next : Asked) (place : ℕ) → IsFromNobody asked → alone_at asked place ≡ Some next → IsFromNobody next
alone_from asked next place is at = where_alone (place == 0) at
  where
    where_alone : (b : Bool) → (if b then Some asked else None) ≡ Some next → IsFromNobody next
    where_alone true at = subst IsFromNobody (same_Some _ _ at) is
    where_alone false at = cc

part_from : (from kind command : ℕ) → from ≡ 0 → (found : Option (List ℕ)) (next : Asked) → option_map (Pldm from kind command) found ≡ Some next → IsFromNobody next
part_from from kind command is (Some body) next at = subst IsFromNobody (same_Some _ _ at) is
part_from from kind command is None next at = cc

either_from : (b : Bool) (found alone : Option Asked) (next : Asked) → (found ≡ Some next → IsFromNobody next) → (alone ≡ Some next → IsFromNobody next) → (if b then found else alone) ≡ Some next → IsFromNobody next
either_from true found alone next one other at = one at
either_from false found alone next one other at = other at

sent_from : (asked next : Asked) (place : ℕ) → IsFromNobody asked → request_at asked place ≡ Some next → IsFromNobody next
sent_from (Ipmi from net_fn lun command body) next place is at = alone_from (Ipmi from net_fn lun command body) next place is at
sent_from (Pldm from kind command body) next place is at =
    either_from (is_in_parts (Pldm from kind command body)) _ (alone_at (Pldm from kind command body) place) next
    (λ found. part_from from kind command is (part_at body place) next found) (alone_from (Pldm from kind command body) next place is) at

got_from : (b : Bool) (handle transfer : ℕ) (next : Asked) → (if b then Some (get_part handle transfer) else None) ≡ Some next → IsFromNobody next
got_from true handle transfer next at = subst IsFromNobody (same_Some _ _ at) refl
got_from false handle transfer next at = cc

reads_from : (k : Key) (bodies : List (List ℕ)) (next : Asked) → next_after (Reads k) bodies ≡ Some next → IsFromNobody next
reads_from (key.BiosAttribute handle) bodies next at = got_from (goes_on (length bodies) (last_of bodies)) handle (part_length * length bodies) next at
reads_from _ bodies next at = cc

first_from : (asked : Asked) → IsFromNobody asked → IsFromNobody (first_request asked)
first_from (Ipmi from net_fn lun command body) is = is
first_from (Pldm from kind command body) is = is

pub series_are_from_nobody : SeriesAreFromNobody
series_are_from_nobody (Reads k) is = record { first = (gets_are_read k).from_nobody; next = reads_from k }
series_are_from_nobody (Sends asked) is = record { first = first_from asked is; next = λ bodies next at. sent_from asked next (length bodies) is at }
