-- Sound records stay sound where a valid value is written.
use Rattle.std.proofs.Common.{◌≡◌, ℕ, List, Option, Some, None, Bool, true, false, if◌then◌else◌, subst, sym, refl}
use Rattle.std.proofs.Props.{props}
use Rattle.record_base.specs.declared.key.Key.{Key}
use Rattle.record_base.specs.declared.op.Op.{Op}
use Rattle.cfg_records.specs.declared.board_file.BoardFile.{BoardFile}
use Rattle.record_base.specs.Keys.{same_key}
use Rattle.record_base.specs.KeyLaws.{exact_key}
use Rattle.cfg_records.specs.Records.{Records, with_record}
use Rattle.record_kinds.specs.declared.limits.Limits.{Limits}
use Rattle.record_kinds.specs.Limits.{valid, sets, limits_at}
use Rattle.record_kinds.specs.LimitsLaws.{record_laws}
use Rattle.record_kinds.specs.Sound.{IsSoundAt, AreSoundRecords}

-- ---- at most one proof

pub valid-prop : (limits : Limits) (value : List ℕ) → IsProp (valid limits value)
valid-prop limits = (record_laws limits).one_proof

IsSoundAt-prop : (limits : Option Limits) (value : Option (List ℕ)) → IsProp (IsSoundAt limits value)
IsSoundAt-prop (Some limits) (Some value) = valid-prop limits value
IsSoundAt-prop None None = hlevel props
IsSoundAt-prop (Some limits) None = hlevel props
IsSoundAt-prop None (Some value) = hlevel props

pub AreSoundRecords-prop : (file : BoardFile) (records : Records) → IsProp (AreSoundRecords file records)
AreSoundRecords-prop file records = hlevel (props, IsSoundAt-prop)

-- ---- written records

-- a record with limits has a valid value
pub valid_at : (at : Option Limits) (had : Option (List ℕ)) (limits : Limits) (old : List ℕ) → at ≡ Some limits → had ≡ Some old → IsSoundAt at had → valid limits old
valid_at at had limits old is_at is_had sound =
    subst (λ (v : Option (List ℕ)). IsSoundAt (Some limits) v) is_had (subst (λ (l : Option Limits). IsSoundAt l had) is_at sound)

sound_where : (file : BoardFile) (records : Records) (key : Key) (limits : Limits) (new : List ℕ) → AreSoundRecords file records → limits_at file key ≡ Some limits → valid limits new
    → (k : Key) (b : Bool) → same_key key k ≡ b → IsSoundAt (limits_at file k) (if b then Some new else records k)
sound_where file records key limits new sound at is_valid k true e =
    subst (λ (q : Key). IsSoundAt (limits_at file q) (Some new)) (exact_key key k e) (subst (λ (l : Option Limits). IsSoundAt l (Some new)) (sym at) is_valid)
sound_where file records key limits new sound at is_valid k false e = sound k

-- a valid value keeps the records sound
pub sound_with : (file : BoardFile) (records : Records) (key : Key) (limits : Limits) (new : List ℕ) → AreSoundRecords file records → limits_at file key ≡ Some limits → valid limits new → AreSoundRecords file (with_record records key new)
sound_with file records key limits new sound at is_valid = λ k. sound_where file records key limits new sound at is_valid k (same_key key k) refl

-- an operation that a record accepts keeps the records sound
pub sound_set : (file : BoardFile) (records : Records) (key : Key) (limits : Limits) (op : Op) (old new : List ℕ) → AreSoundRecords file records → limits_at file key ≡ Some limits → records key ≡ Some old
    → sets limits op old new → AreSoundRecords file (with_record records key new)
sound_set file records key limits op old new sound at had done = sound_with file records key limits new sound at ((record_laws limits).keeps op old new (valid_at _ _ limits old at had (sound key)) done)
