-- The code of an invalid field.
use Rattle.std.proofs.Common.{◌≡◌, ℕ, List, Result, Err, subst, lit<, arith}
use Rattle.two_wire.specs.Codes.{invalid_data_field}
use Rattle.record_base.specs.Meaning.{IsRefusal}

-- the code is the code of a refusal
pub invalid_field : IsRefusal invalid_data_field
invalid_field = record {
  is_fault = lit< tt;
  is_byte = lit< tt;
  not_busy = λ same. omega arith;
  is_ready = λ same. omega arith;
}

-- a result that refuses with the code of an invalid field refuses with no other code
pub refused_field : (code : ℕ) (r : Result (List ℕ) ℕ) → r ≡ Err invalid_data_field → r ≡ Err code → IsRefusal code
refused_field code r refuses is = let same : invalid_data_field ≡ code = cc in subst IsRefusal same invalid_field
