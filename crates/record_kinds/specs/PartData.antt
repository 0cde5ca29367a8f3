-- The parts of a Set of a BIOS attribute's value, by the data of their requests (DSP0247, "SetBIOSAttributeCurrentValue").
use Rattle.std.specs.Prelude.{ℕ, nat_lt, List, length, drop, ◌==◌, if◌then◌else◌, Result, Ok, Err}
use Rattle.two_wire.specs.Codes.{pldm_invalid_data, pldm_invalid_length}
use Rattle.record_base.specs.Requests.{byte_at}
use Rattle.bios_attr.specs.BiosAttribute.{transfer_handle}
use Rattle.bios_attr.specs.EntryParts.{before_part}
use Rattle.pldm_base.specs.Parts.{flag_byte}
use Rattle.pldm_base.specs.declared.table.TransferFlag.TheVariants as transfer
use Rattle.record_kinds.specs.declared.set_part.SetPart.{SetPart}
use Rattle.record_kinds.specs.declared.set_part.SetPart.TheVariants.{Start, Middle, End}

-- how many bytes the data of a part have at least, and those of a first part, whose entry has an attribute and a type
abbrev pub least_part : ℕ
least_part = 6

abbrev pub least_start : ℕ
least_start = 8

-- the part in such data: too short first, then another flag; data that are whole are no part
abbrev pub part_in : List ℕ → Result SetPart ℕ
part_in body =
    if nat_lt (length body) least_part then Err pldm_invalid_length
    else (if byte_at body 4 == flag_byte transfer.Start then (if nat_lt (length body) least_start then Err pldm_invalid_length else Ok (Start (drop before_part body)))
    else (if byte_at body 4 == flag_byte transfer.Middle then Ok (Middle (transfer_handle body) (drop before_part body))
    else (if byte_at body 4 == flag_byte transfer.End then Ok (End (transfer_handle body) (drop before_part body))
    else Err pldm_invalid_data)))
