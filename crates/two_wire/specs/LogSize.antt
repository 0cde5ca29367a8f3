-- How many records a System Event Log can have.
use Rattle.std.specs.Prelude.{ℕ}

-- at least so many
abbrev pub least_log_records : ℕ
least_log_records = 1

-- at most so many
abbrev pub most_log_records : ℕ
most_log_records = 1024
