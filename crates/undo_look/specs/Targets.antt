-- What a look asks for: what a record's Get shows, or a part of one of the controller's own tables.
use Rattle.std.specs.Prelude.{ℕ, ◌==◌, List, [], ◌∷◌, ◌++◌, Option, None, if◌then◌else◌}
use Rattle.std.specs.Int.{w32, to_le_bytes}
use Rattle.pldm_base.specs.Parts.{get_first_part, get_next_part}
use Rattle.record_base.specs.AttributeValue.{two_bytes}
use Rattle.record_base.specs.Requests.{ipmi_request, pldm_request}
use Rattle.record_base.specs.declared.message.Asked.{Asked}
use Rattle.record_kinds.specs.Limits.{get_asked}
use Rattle.record_kinds.specs.Series.{get_next}
use Rattle.bios_attr.specs.declared.bios_table.BiosTable.{BiosTable}
use Rattle.bios_attr.specs.declared.bios_table.BiosTable.TheVariants as table
use Rattle.bios_attr.specs.EntryParts.{bios}
use Rattle.undo_plans.specs.Showing.{shown_by}
use Rattle.undo_look.specs.declared.target.TablePart.{TablePart}
use Rattle.undo_look.specs.declared.target.TablePart.TheVariants as part
use Rattle.undo_look.specs.declared.target.Target.{Target}
use Rattle.undo_look.specs.declared.target.Target.TheVariants.{Record, Table}

-- ---- the controller's own tables

-- the network function of storage, and its commands on the repository of sensor data records (IPMI 2.0, "SDR Repository Commands")
abbrev pub storage : ℕ
storage = 0x0A

abbrev pub reserve_sdr_repository : ℕ
reserve_sdr_repository = 0x22

abbrev pub get_sdr : ℕ
get_sdr = 0x23

-- the command on the tables of attributes, and their numbers (DSP0247, GetBIOSTable)
abbrev pub get_bios_table : ℕ
get_bios_table = 0x01

abbrev pub table_number : BiosTable → ℕ
table_number table.Strings = 0
table_number table.Attributes = 1
table_number table.Values = 2

-- so many bytes of a record from an offset on: the reservation and the record's id, the low byte first
abbrev pub record_request : (reservation id offset count : ℕ) → Asked
record_request reservation id offset count = ipmi_request storage get_sdr (two_bytes reservation ++ (two_bytes id ++ offset ∷ count ∷ []))

-- the transfer operation: the first part is asked for by the handle 0, and each later one by its own
abbrev pub operation_for : (transfer : ℕ) → ℕ
operation_for transfer = if transfer == 0 then get_first_part else get_next_part

abbrev pub bios_request : BiosTable → (transfer : ℕ) → Asked
bios_request of transfer = pldm_request bios get_bios_table (to_le_bytes w32 transfer ++ operation_for transfer ∷ table_number of ∷ [])

-- the request for a part of a table
abbrev pub part_request : TablePart → Asked
part_request part.Reservation = ipmi_request storage reserve_sdr_repository []
part_request (part.SensorRecord reservation id offset count) = record_request reservation id offset count
part_request (part.Bios of transfer) = bios_request of transfer

-- ---- what is asked for

-- the first request
abbrev pub first_asked : Target → Asked
first_asked (Record key) = get_asked key
first_asked (Table part) = part_request part

-- the request for the part behind so many bytes of a record; a part of a table is one request
abbrev pub next_at : Target → (transfer : ℕ) → Option Asked
next_at (Record key) transfer = get_next key transfer
next_at (Table part) transfer = None

-- what the only reply shows: of a record what its Get shows, and of a table all of its data
abbrev pub shown_alone : Target → (body : List ℕ) → List ℕ
shown_alone (Record key) body = shown_by key (body ∷ [])
shown_alone (Table part) body = body
