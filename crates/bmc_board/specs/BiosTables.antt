-- GetBIOSTable (DSP0247): the tables that tell of a board's attributes, in parts.
use Rattle.std.specs.Prelude.{ℕ, ◌+◌, List, ◌∷◌, ◌++◌, length, map, Option, Some, None, Result, Ok, Err, ◌==◌, ◌||◌, nat_lt, if◌then◌else◌}
use Rattle.std.specs.Int.{w32, to_le_bytes}
use Rattle.two_wire.specs.Codes.{pldm_invalid_data, pldm_no_table, pldm_invalid_table}
use Rattle.pldm_base.specs.declared.table.Part.{Part}
use Rattle.pldm_base.specs.Parts.{part_length, asked_offset, part_bytes, is_last, next_handle, flag_of, flag_byte}
use Rattle.cfg_records.specs.Records.{Records}
use Rattle.record_base.specs.Requests.{byte_at}
use Rattle.record_base.specs.declared.attribute.Attribute.{Attribute}
use Rattle.cfg_records.specs.declared.board_file.BoardFile.{BoardFile}
use Rattle.record_base.specs.declared.message.Answered.{Answered}
use Rattle.bios_attr.specs.declared.bios_table.BiosTable.{BiosTable}
use Rattle.bios_attr.specs.declared.bios_table.BiosTable.TheVariants.{Strings, Attributes, Values}
use Rattle.bios_attr.specs.Attributes.{strings_of, string_entries, attribute_entries}
use Rattle.bios_attr.specs.EntryParts.{transfer_handle, before_part}
use Rattle.bios_attr.specs.Values.{head_of, value_entries}
use Rattle.bmc_board.specs.Replies.{done, refused}
pub use Rattle.bmc_board.specs.RecordBytes.{values_in}
use Rattle.bmc_board.specs.ToldTables.{table_of}

-- a table that tells of these attributes and of their values
abbrev pub table_bytes : List Attribute → (ℕ → List ℕ) → BiosTable → List ℕ
table_bytes attributes values Strings = table_of (string_entries 0 (strings_of attributes))
table_bytes attributes values Attributes = table_of (attribute_entries (strings_of attributes) attributes)
table_bytes attributes values Values = table_of (value_entries values (map head_of attributes))

-- the number of the pending table, which is no table of this controller
abbrev pub pending_table : ℕ
pending_table = 3

-- the table of this number, or the code that refuses it: no table has the number, or the board hasn't the table
abbrev pub table_numbered : ℕ → BiosTable
table_numbered number = if number == 0 then Strings else (if number == 1 then Attributes else Values)

abbrev pub table_asked : List Attribute → ℕ → Result BiosTable ℕ
table_asked attributes number =
    if nat_lt pending_table number then Err pldm_invalid_table
    else (if (number == pending_table) || (length attributes == 0) then Err pldm_no_table
    else Ok (table_numbered number))

-- what a reply shows of a part: the handle of the next part, the part's flag, and its bytes
abbrev pub shown_part : Part → List ℕ
shown_part part = to_le_bytes w32 part.next ++ flag_byte part.flag ∷ part.bytes.now

-- what it shows of the part of a table at an offset
abbrev pub part_data : List ℕ → ℕ → List ℕ
part_data table offset = to_le_bytes w32 (next_handle table offset) ++ flag_byte (flag_of (offset == 0) (is_last table offset)) ∷ part_bytes table offset

abbrev pub part_answer : List ℕ → Option ℕ → Answered
part_answer table (Some offset) = done (part_data table offset)
part_answer table None = refused pldm_invalid_data

-- the part that is asked for, by its transfer operation and handle
abbrev pub asked_part : List ℕ → List ℕ → Answered
asked_part body table = part_answer table (asked_offset table (byte_at body 4) (transfer_handle body))

abbrev pub table_where : Result BiosTable ℕ → List ℕ → (BiosTable → List ℕ) → Answered
table_where (Ok table) body bytes_of = asked_part body (bytes_of table)
table_where (Err code) body bytes_of = refused code

abbrev pub table_answer : BoardFile → Records → List ℕ → Answered
table_answer setup records body = table_where (table_asked setup.attributes.items (byte_at body 5)) body (table_bytes setup.attributes.items (values_in records))

-- a part has at most so many bytes of data with it
abbrev pub longest_part : ℕ
longest_part = before_part + part_length
