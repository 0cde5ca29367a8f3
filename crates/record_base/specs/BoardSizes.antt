-- How many items of a sort a board has at most.
use Rattle.std.specs.Prelude.{ℕ, ◌*◌}

abbrev pub most_sensors : ℕ
most_sensors = 32

-- numeric effecters, and as many state effecters
abbrev pub most_effecters : ℕ
most_effecters = 32

-- the fields of a state effecter
abbrev pub most_state_fields : ℕ
most_state_fields = 8

-- sensor data records
abbrev pub most_sdrs : ℕ
most_sdrs = 64

abbrev pub most_users : ℕ
most_users = 16

-- channels, those with sessions and those without together
abbrev pub most_channels : ℕ
most_channels = 8

-- what a user may do on a channel: one for each user on each channel
abbrev pub most_accesses : ℕ
most_accesses = most_users * most_channels

-- the bytes of a sensor data record
abbrev pub most_sdr_bytes : ℕ
most_sdr_bytes = 64
