-- The fields of state effecters (DSP0248).
use Rattle.std.specs.Prelude.{ℕ, List, Bool, ◌==◌}
use Rattle.std.specs.List.{list_any}

-- a field with these states can be in this state
abbrev pub allows : List ℕ → ℕ → Bool
allows states state = list_any (λ s. s == state) states
