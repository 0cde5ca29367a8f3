-- The commands of BIOS attributes ask rightly.
use Rattle.std.proofs.Common.{◌≡◌, ℕ, nat_lt, List, Result, Ok, Err, Bool, true, false, not, if◌then◌else◌, ◌==◌, drop, length, refl}
use Rattle.two_wire.specs.Codes.{pldm_invalid_length, pldm_invalid_data}
use Rattle.pldm_base.specs.Parts.{flag_byte}
use Rattle.pldm_base.specs.declared.table.TransferFlag.TheVariants as transfer
use Rattle.record_base.specs.declared.bios_attribute.SetBiosAttribute.{SetBiosAttribute}
use Rattle.record_base.specs.AttributeValue.{number_of}
use Rattle.record_base.specs.BiosAttribute.{setting}
use Rattle.record_base.specs.Requests.{byte_at}
use Rattle.bios_attr.specs.BiosAttribute.{attribute_in, start_and_end, get_first_part, get_next_part, transfer_handle}
use Rattle.bios_attr.specs.declared.bios_attribute.AskedPart.{AskedPart}
use Rattle.bios_attr.specs.declared.bios_attribute.AskedPart.TheVariants.{First, Later}
use Rattle.record_kinds.specs.declared.set_part.SetPart.{SetPart}
use Rattle.record_kinds.specs.declared.set_part.SetPart.TheVariants.{Start, Middle, End}
use Rattle.bios_attr.specs.EntryParts.{before_part}
use Rattle.record_kinds.specs.PartData.{part_in, least_part, least_start}
use Rattle.bmc_board.specs.AttributeCommands.{whole_set, part_set, attribute_set, attribute_shown, attribute_get}
use Rattle.bmc_board.proofs.Rightly.{is_right}

-- ---- to set

whole_where : (short other cut : Bool) (change : SetBiosAttribute)
    → is_right 251 true (whole_set (if short then Err pldm_invalid_length else (if other then Err pldm_invalid_data else (if cut then Err pldm_invalid_length else Ok change)))) ≡ true
whole_where true other cut change = refl
whole_where false true cut change = refl
whole_where false false true change = refl
whole_where false false false change = refl

part_where : (from : ℕ) (short start cut middle end : Bool) (first next last : SetPart)
    → is_right 251 true (part_set from (if short then Err pldm_invalid_length
    else (if start then (if cut then Err pldm_invalid_length else Ok first)
    else (if middle then Ok next
    else (if end then Ok last
    else Err pldm_invalid_data))))) ≡ true
part_where from true start cut middle end first next last = refl
part_where from false true true middle end first next last = refl
part_where from false true false middle end first next last = refl
part_where from false false cut true end first next last = refl
part_where from false false cut false true first next last = refl
part_where from false false cut false false first next last = refl

set_where : (from : ℕ) (whole : Bool) (set : Result SetBiosAttribute ℕ) (part : Result SetPart ℕ) → is_right 251 true (whole_set set) ≡ true → is_right 251 true (part_set from part) ≡ true
    → is_right 251 true (if whole then whole_set set else part_set from part) ≡ true
set_where from true set part right other = right
set_where from false set part right other = other

pub set_right : (from : ℕ) (body : List ℕ) → is_right 251 true (attribute_set from body) ≡ true
set_right from body =
    set_where from (byte_at body 4 == start_and_end) (attribute_in body) (part_in body)
    (whole_where (nat_lt (length body) 6) (not (byte_at body 4 == start_and_end)) (nat_lt (length body) 8) (setting (number_of (byte_at body 5) (byte_at body 6)) (byte_at body 7) (drop 8 body)))
    (part_where from (nat_lt (length body) least_part) (byte_at body 4 == flag_byte transfer.Start) (nat_lt (length body) least_start) (byte_at body 4 == flag_byte transfer.Middle) (byte_at body 4 == flag_byte transfer.End)
    (Start (drop before_part body)) (Middle (transfer_handle body) (drop before_part body)) (End (transfer_handle body) (drop before_part body)))

-- ---- to get

get_where : (first later : Bool) (one other : AskedPart) → is_right 251 false (attribute_shown (Ok one)) ≡ true → is_right 251 false (attribute_shown (Ok other)) ≡ true
    → is_right 251 false (attribute_shown (if first then Ok one else (if later then Ok other else Err pldm_invalid_data))) ≡ true
get_where true later one other right again = right
get_where false true one other right again = again
get_where false false one other right again = refl

pub get_right : (body : List ℕ) → is_right 251 false (attribute_get body) ≡ true
get_right body =
    let handle = number_of (byte_at body 5) (byte_at body 6) in
    get_where (byte_at body 4 == get_first_part) (byte_at body 4 == get_next_part) (First handle) (Later handle (transfer_handle body)) refl refl
