-- Replies.
use Rattle.std.specs.Prelude.{ℕ, List, [], if◌then◌else◌}
use Rattle.two_wire.specs.Codes.{success, not_present, invalid_data_field, pldm_invalid_effecter, pldm_invalid_attribute}
use Rattle.record_base.specs.declared.key.Key.{Key}
use Rattle.record_base.specs.declared.key.Key.TheVariants as key
use Rattle.record_base.specs.declared.message.Answered.{Answered}
use Rattle.cfg_records.specs.declared.board_file.BoardFile.{BoardFile}
use Rattle.record_kinds.specs.Boards.{is_sessionless}

-- the reply to a request that was carried out
abbrev pub done : List ℕ → Answered
done body = record { code = success; body = body }

-- the reply to a request that was refused
abbrev pub refused : ℕ → Answered
refused fault = record { code = fault; body = [] }

-- the code of a channel that has no sessions (IPMI 2.0, Set and Get Channel Access)
abbrev pub sessionless_channel : ℕ
sessionless_channel = 0x82

-- The code for a record that isn't there: not present (IPMI 2.0), as of a sensor. A key with another code, and one whose code the setup
-- decides, has a line above this one.
abbrev pub unknown_code : BoardFile → Key → ℕ
unknown_code setup (key.NumericEffecter id) = pldm_invalid_effecter
unknown_code setup (key.StateEffecter id) = pldm_invalid_effecter
unknown_code setup (key.UserName user) = invalid_data_field
unknown_code setup (key.UserAccess on) = invalid_data_field
unknown_code setup (key.ChannelAccess at) = if is_sessionless setup at.channel.number then sessionless_channel else invalid_data_field
unknown_code setup (key.BiosAttribute handle) = pldm_invalid_attribute
unknown_code setup (key.LanParam on) = invalid_data_field
unknown_code setup _ = not_present
