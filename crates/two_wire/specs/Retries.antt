-- How often the frames of a request are sent again.
use Rattle.std.specs.Prelude.{ℕ}

-- at most so many times
abbrev pub most_retries : ℕ
most_retries = 15
