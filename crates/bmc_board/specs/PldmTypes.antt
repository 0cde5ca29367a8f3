-- The types of PLDM that the controller speaks are those that GetPLDMTypes names (DSP0240).
use Rattle.std.specs.Prelude.{◌≡◌, ℕ, ◌<◌, ◌/◌, ◌%◌, slice_index}
use Rattle.record_base.specs.Masks.{has}
use Rattle.bmc_board.specs.Table.{is_pldm_type}
use Rattle.bmc_board.specs.Live.{pldm_types}

-- a type is one of the controller's exactly where its bit is set in the reply: eight types a byte, the lowest first
abbrev pub TypesAreNamed : Type 0
TypesAreNamed = (kind : ℕ) → kind < 64 → has (slice_index pldm_types (kind / 8)) (kind % 8) ≡ is_pldm_type kind
