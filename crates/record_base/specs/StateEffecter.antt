-- State effecters (DSP0248). A value has a byte for each field: its present state.
use Rattle.std.specs.Prelude.{ℕ, List, [], ◌∷◌, map, Bool, true, false, ◌&&◌}
use Rattle.record_base.specs.declared.state_effecter.StateField.{StateField}
use Rattle.record_base.specs.StateField.{allows}

-- each field has one state, and can be in it
abbrev pub are_states : List StateField → List ℕ → Bool
are_states [] [] = true
are_states (field ∷ fields) (state ∷ states) = allows field.allowed state && are_states fields states
are_states _ _ = false

-- the first states of the fields
abbrev pub state_value : List StateField → List ℕ
state_value fields = map (λ f. f.current) fields
