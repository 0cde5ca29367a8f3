-- An index in which no key has a place.
use Rattle.std.proofs.Common.{◌≡◌, ℕ, zero, suc, [], replicate, Option, None, slice_index_or, refl}

-- no number has a place in a table of none
nowhere : (n i : ℕ) → slice_index_or {A = Option ℕ} (replicate n None) i None ≡ None
nowhere zero i = refl
nowhere (suc n) zero = refl
nowhere (suc n) (suc i) = nowhere n i

-- nor has one in any of such tables
pub nowhere_in : (tables n table i : ℕ) → slice_index_or {A = Option ℕ} (slice_index_or (replicate tables (replicate n None)) table []) i None ≡ None
nowhere_in zero n table i = refl
nowhere_in (suc tables) n zero i = nowhere n i
nowhere_in (suc tables) n (suc table) i = nowhere_in tables n table i
