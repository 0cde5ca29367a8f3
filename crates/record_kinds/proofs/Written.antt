-- A value that an operation makes of its record is one that the record's limits allow, and sound records stay so with it.
use Rattle.std.proofs.Common.{◌≡◌, ℕ, List, Option, Some, None, Result, Ok, subst}
use Rattle.record_base.specs.Meaning.{DecidesValue}
use Rattle.record_base.specs.declared.op.Op.{Op}
use Rattle.cfg_records.specs.Records.{Records}
use Rattle.cfg_records.specs.declared.board_file.BoardFile.{BoardFile}
use Rattle.record_kinds.specs.declared.limits.Limits.{Limits}
use Rattle.record_kinds.specs.Limits.{key_of, valid, sets, outcome, limits_at}
use Rattle.record_kinds.specs.LimitsLaws as laws
use Rattle.record_kinds.specs.Sound.{AreSoundRecords}
use Rattle.record_kinds.specs.SoundLaws.{valid_at}
use Rattle.record_kinds.specs.Sets.{set_outcome}

-- a new value is one that the record's limits allow
pub record IsWritten (setup : BoardFile) (op : Op) (new : List ℕ) : Type 0 where
  pub limits : Limits
  pub old : List ℕ
  pub at : limits_at setup (key_of op) ≡ Some limits
  pub is_set : sets limits op old new
  pub is_valid : valid limits new

decided : (l : Limits) (op : Op) (old new : List ℕ) (r : Result (List ℕ) ℕ) → r ≡ Ok new → DecidesValue r (sets l op old) → sets l op old new
decided l op old new r is d = subst (λ (q : Result (List ℕ) ℕ). DecidesValue q (sets l op old)) is d

pub written : (setup : BoardFile) (records : Records) (limits : Option Limits) (value : Option (List ℕ)) (unknown : ℕ) (op : Op) (new : List ℕ) → limits_at setup (key_of op) ≡ limits → records (key_of op) ≡ value
    → AreSoundRecords setup records → set_outcome limits value unknown op ≡ Ok new → IsWritten setup op new
written setup records (Some l) (Some old) unknown op new at had sound is =
    let done : sets l op old new = decided l op old new (outcome l op old) is ((laws.record_laws l).decides op old) in
    record { limits = l; old = old; at = at; is_set = done; is_valid = (laws.record_laws l).keeps op old new (valid_at _ _ l old at had (sound (key_of op))) done }
written setup records (Some l) None unknown op new at had sound is = cc
written setup records None (Some old) unknown op new at had sound is = cc
written setup records None None unknown op new at had sound is = cc
