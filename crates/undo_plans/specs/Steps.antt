-- How many steps a plan has.
use Rattle.std.specs.Prelude.{ℕ}

-- at most so many, and so many requests that undo them
abbrev pub most_steps : ℕ
most_steps = 256
