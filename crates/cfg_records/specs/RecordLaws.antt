-- Records that are written.
use Rattle.std.proofs.Common.{◌≡◌, List, ℕ, Some, Bool, true, false, if◌then◌else◌, refl, ap, sym, ◌∙◌}
use Rattle.record_base.specs.declared.key.Key.{Key}
use Rattle.record_base.specs.Keys.{same_key}
use Rattle.record_base.specs.KeyLaws.{exact_key, same_key_self}
use Rattle.cfg_records.specs.Records.{Records, with_record}

-- a value that is written is there
pub with_record_same : (records : Records) (key : Key) (value : List ℕ) → with_record records key value key ≡ Some value
with_record_same records key value = ap (λ b. if b then Some value else records key) (same_key_self key)

back_at : (records : Records) (key : Key) (new old : List ℕ) → records key ≡ Some old → (k : Key) (b : Bool) → same_key key k ≡ b → (if b then Some old else (if b then Some new else records k)) ≡ records k
back_at records key new old had k true e = sym (ap records (sym (exact_key key k e)) ∙ had)
back_at records key new old had k false e = refl

-- a write of the old value gives the old records back
pub with_record_back : (records : Records) (key : Key) (new old : List ℕ) → records key ≡ Some old → with_record (with_record records key new) key old ≡ records
with_record_back records key new old had = λ i k. back_at records key new old had k (same_key key k) refl i
