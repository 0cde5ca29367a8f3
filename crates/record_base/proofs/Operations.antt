-- Operations on thresholds are one where their bytes are.
use Rattle.std.proofs.Common.{◌≡◌, ℕ, List, length, ap, subst}
use Rattle.std.proofs.Math.Nat.{ℕ_set}
use Rattle.record_base.specs.declared.thresholds.SetThresholds.{SetThresholds}

-- the operation with these bytes
abbrev pub set_thresholds : (sensor mask : ℕ) (values : List ℕ) → length values ≡ 6 → SetThresholds
set_thresholds sensor mask values six = record { sensor = sensor; mask = mask; values = values; six = six }

-- two proofs that a list has six bytes are one
pub same_thresholds : (sensor mask : ℕ) (values others : List ℕ) (six : length values ≡ 6) (also : length others ≡ 6) → values ≡ others → set_thresholds sensor mask values six ≡ set_thresholds sensor mask others also
same_thresholds sensor mask values others six also same =
    subst (λ (v : List ℕ). (of : length v ≡ 6) → set_thresholds sensor mask values six ≡ set_thresholds sensor mask v of) same
    (λ of. ap (set_thresholds sensor mask values) (ℕ_set (length values) 6 six of)) also
