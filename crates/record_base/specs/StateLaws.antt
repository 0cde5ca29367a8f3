-- Fields have as many states as they are themselves.
use Rattle.std.proofs.Common.{◌≡◌, ◌≢◌, ℕ, List, [], ◌∷◌, length, true, false, refl, arith}
use Rattle.record_base.specs.MaskLaws.{both_true, is_false}
use Rattle.record_base.specs.declared.state_effecter.StateField.{StateField}
use Rattle.record_base.specs.StateField.{allows}
use Rattle.record_base.specs.StateEffecter.{are_states}

-- there are as many states as fields
pub as_many : (fields : List StateField) (states : List ℕ) → are_states fields states ≡ true → length states ≡ length fields
as_many [] [] h = refl
as_many (f ∷ fs) (s ∷ ss) h = let rest : length ss ≡ length fs = as_many fs ss (both_true (allows f.allowed s) (are_states fs ss) h).1 in omega arith
as_many [] (s ∷ ss) h = cc
as_many (f ∷ fs) [] h = cc

-- other numbers of states are no states of the fields
pub not_as_many : (fields : List StateField) (states : List ℕ) → length states ≢ length fields → false ≡ are_states fields states
not_as_many fields states other = is_false _ (λ h. other (as_many fields states h))
