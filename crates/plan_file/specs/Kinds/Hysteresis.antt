-- What a step that sets hysteresis holds.
pub mod Laws
pub mod Kind
use Rattle.toml.specs.Data.{Members}
use Rattle.record_base.specs.declared.op.Op.{Op}
use Rattle.record_base.specs.declared.op.Op.TheVariants as op
use Rattle.record_base.specs.declared.hysteresis.SetHysteresis.{SetHysteresis}
use Rattle.text_fields.specs.declared.field.Field.TheVariants as field
use Rattle.text_fields.specs.Trees.{HasNumber}

-- the step holds a change of hysteresis
pub record HoldsHysteresis (tree : Members) (set : SetHysteresis) : Type 0 where
  pub sensor : HasNumber field.Sensor tree set.sensor
  pub positive : HasNumber field.Positive tree set.positive
  pub negative : HasNumber field.Negative tree set.negative

-- the operation is of this kind, and the step holds it
abbrev pub HoldsOp : Members → Op → Type 0
HoldsOp tree (op.Hysteresis set) = HoldsHysteresis tree set
HoldsOp tree other = ⊥
