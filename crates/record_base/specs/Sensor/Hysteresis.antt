-- The hysteresis of a sensor (IPMI 2.0). A value has two bytes: for rising and for falling thresholds.
use Rattle.std.specs.Prelude.{ℕ, List, [], ◌∷◌}
use Rattle.record_base.specs.declared.hysteresis.Hysteresis.{Hysteresis}

-- the value of this hysteresis
abbrev pub hysteresis_value : Hysteresis → List ℕ
hysteresis_value hysteresis = hysteresis.positive ∷ hysteresis.negative ∷ []
