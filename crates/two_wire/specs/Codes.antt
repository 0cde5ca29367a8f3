-- Completion codes, by the words of their standards: IPMI 2.0 and DSP0240.
use Rattle.std.specs.Prelude.{ℕ}

-- the request was carried out
abbrev pub success : ℕ
success = 0x00

-- ---- IPMI

abbrev pub uninitialized_watchdog : ℕ
uninitialized_watchdog = 0x80

abbrev pub node_busy : ℕ
node_busy = 0xC0

abbrev pub invalid_command : ℕ
invalid_command = 0xC1

abbrev pub invalid_for_lun : ℕ
invalid_for_lun = 0xC2

abbrev pub out_of_space : ℕ
out_of_space = 0xC4

abbrev pub reservation_canceled : ℕ
reservation_canceled = 0xC5

abbrev pub invalid_length : ℕ
invalid_length = 0xC7

abbrev pub out_of_range : ℕ
out_of_range = 0xC9

abbrev pub too_many_bytes : ℕ
too_many_bytes = 0xCA

abbrev pub not_present : ℕ
not_present = 0xCB

abbrev pub invalid_data_field : ℕ
invalid_data_field = 0xCC

-- ---- PLDM

-- the request isn't carried out, for no reason that has a code of its own
abbrev pub pldm_error : ℕ
pldm_error = 0x01

abbrev pub pldm_invalid_data : ℕ
pldm_invalid_data = 0x02

abbrev pub pldm_invalid_length : ℕ
pldm_invalid_length = 0x03

abbrev pub pldm_not_ready : ℕ
pldm_not_ready = 0x04

abbrev pub pldm_unsupported_command : ℕ
pldm_unsupported_command = 0x05

abbrev pub pldm_invalid_type : ℕ
pldm_invalid_type = 0x20

-- DSP0248: no effecter has this id
abbrev pub pldm_invalid_effecter : ℕ
pldm_invalid_effecter = 0x80

-- DSP0248: the effecter's field can't be set to this state
abbrev pub pldm_invalid_state : ℕ
pldm_invalid_state = 0x81

-- DSP0247: the controller hasn't the table
abbrev pub pldm_no_table : ℕ
pldm_no_table = 0x83

-- DSP0247: no table has this number
abbrev pub pldm_invalid_table : ℕ
pldm_invalid_table = 0x85

-- DSP0247: no attribute has this handle
abbrev pub pldm_invalid_attribute : ℕ
pldm_invalid_attribute = 0x88
