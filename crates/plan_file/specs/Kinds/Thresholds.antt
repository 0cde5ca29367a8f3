-- What a step that sets thresholds holds.
pub mod Laws
pub mod Kind
use Rattle.std.specs.Prelude.{◌≡◌, ℕ, Bool, map, slice_get, is_some}
use Rattle.toml.specs.Data.{Members}
use Rattle.record_base.specs.Masks.{has}
use Rattle.record_base.specs.declared.op.Op.{Op}
use Rattle.record_base.specs.declared.op.Op.TheVariants as op
use Rattle.record_base.specs.declared.thresholds.SetThresholds.{SetThresholds}
use Rattle.text_fields.specs.declared.field.Field.TheVariants as field
use Rattle.plan_file.specs.declared.kind.thresholds.TheConstants.{LIMITS}
use Rattle.text_fields.specs.Trees.{in_field, number_in, HasNumber}
use Rattle.text_fields.specs.Ranges.{passes, or_zero}

-- the step gives the threshold of this place
abbrev pub is_given : Members → ℕ → Bool
is_given tree place = passes (λ limit. is_some (in_field limit tree)) (slice_get LIMITS place)

-- the step holds a change of thresholds: those that it gives
pub record HoldsThresholds (tree : Members) (set : SetThresholds) : Type 0 where
  pub sensor : HasNumber field.Sensor tree set.sensor
  pub mask : (place : ℕ) → has set.mask place ≡ is_given tree place
  pub values : set.values ≡ map (λ limit. or_zero (number_in limit tree)) LIMITS

-- the operation is of this kind, and the step holds it
abbrev pub HoldsOp : Members → Op → Type 0
HoldsOp tree (op.Thresholds set) = HoldsThresholds tree set
HoldsOp tree other = ⊥
