-- The entries of strings, as they come in parts (DSP0247): an attribute, its type, the text's length, and the text. Each part but the last
-- has 192 bytes.
use Rattle.std.specs.Prelude.{ℕ, ◌+◌, nat_le, nat_lt, List, length, drop, Bool, false, not, ◌==◌, ◌&&◌, if◌then◌else◌, Option, Some, None}
use Rattle.two_wire.specs.Codes.{pldm_invalid_data, pldm_invalid_length}
use Rattle.record_base.specs.Requests.{byte_at}
use Rattle.record_base.specs.AttributeValue.{string_type, number_of}
use Rattle.record_base.specs.BiosAttribute.{setting}
use Rattle.record_base.specs.declared.attribute_range.AttributeRange.{AttributeRange}
use Rattle.record_base.specs.declared.attribute_range.AttributeRange.TheVariants.{Text}
use Rattle.record_base.specs.declared.bios_attribute.SetBiosAttribute.{SetBiosAttribute}
use Rattle.pldm_base.specs.Parts.{part_length}
use Rattle.bios_attr.specs.declared.bios_attribute.AttributeLimits.{AttributeLimits}
use Rattle.bios_attr.specs.BiosAttribute.{is_settable}
use Rattle.bios_attr.specs.EntryParts.{before_entry_value}

-- the length field of a string's entry
abbrev pub text_length : List ℕ → ℕ
text_length entry = number_of (byte_at entry 3) (byte_at entry 4)

-- how many bytes it has before its text: the attribute, its type and the text's length
abbrev pub before_text : ℕ
before_text = 5

-- how many bytes it has once it is whole
abbrev pub whole_length : List ℕ → ℕ
whole_length entry = before_text + text_length entry

-- the operation of a whole entry: it sets its attribute, by its type, to the rest
abbrev pub op_of : List ℕ → SetBiosAttribute
op_of entry = setting (number_of (byte_at entry 0) (byte_at entry 1)) (byte_at entry 2) (drop before_entry_value entry)

-- ---- the first code that refuses a part

-- the bytes are the first part of a string's entry that goes on
abbrev pub begins_string : List ℕ → Bool
begins_string entry = (byte_at entry 2 == string_type) && ((length entry == part_length) && nat_lt part_length (whole_length entry))

-- the attribute can be a text of this length
abbrev pub allows_length : AttributeRange → ℕ → Bool
allows_length (Text lengths) count = nat_le lengths.least count && nat_le count lengths.most
allows_length _ count = false

-- of a first part: another type or an attribute that can only be read; no part of a string's entry that goes on; a text of a length that
-- the attribute can't have
abbrev pub first_fault : AttributeLimits → List ℕ → Option ℕ
first_fault limits entry =
    if not (is_settable limits (op_of entry)) then Some pldm_invalid_data
    else (if not (begins_string entry) then Some pldm_invalid_length
    else (if not (allows_length limits.range (text_length entry)) then Some pldm_invalid_data
    else None))

-- of one behind these bytes, with more behind it: the handle doesn't count them; it hasn't 192 bytes, or reaches the whole length
abbrev pub middle_fault : List ℕ → ℕ → List ℕ → Option ℕ
middle_fault staged handle bytes =
    if not (handle == length staged) then Some pldm_invalid_data
    else (if not (length bytes == part_length) then Some pldm_invalid_length
    else (if nat_le (whole_length staged) (length staged + length bytes) then Some pldm_invalid_length
    else None))

-- of the last one behind these bytes: the handle doesn't count them; it doesn't end at the whole length, or has over 192 bytes
abbrev pub last_fault : List ℕ → ℕ → List ℕ → Option ℕ
last_fault staged handle bytes =
    if not (handle == length staged) then Some pldm_invalid_data
    else (if not (length staged + length bytes == whole_length staged) then Some pldm_invalid_length
    else (if nat_lt part_length (length bytes) then Some pldm_invalid_length
    else None))
