-- Changes that set fields of a state effecter, and how many there are.
use Rattle.std.proofs.Common.{◌≡◌, ◌≤◌, ℕ, zero, suc, min, List, [], ◌∷◌, length, refl, ap, arith}
use Rattle.record_base.specs.declared.field_changes.FieldChange.{FieldChange}
use Rattle.effecter_recs.specs.FieldChanges.{set_to}

-- so many changes, each of which sets its field
abbrev pub set_fields : ℕ → List FieldChange
set_fields zero = []
set_fields (suc count) = set_to 0 ∷ set_fields count

pub as_many_set : (count : ℕ) → length (set_fields count) ≡ count
as_many_set zero = refl
as_many_set (suc count) = ap suc (as_many_set count)

pub few_set : (count : ℕ) → length (set_fields (min count 8)) ≤ 9
few_set count = let many : length (set_fields (min count 8)) ≡ min count 8 = as_many_set (min count 8) in omega arith
