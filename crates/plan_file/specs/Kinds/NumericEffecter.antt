-- What a step that sets the value of a numeric effecter holds.
pub mod Laws
pub mod Kind
use Rattle.toml.specs.Data.{Members}
use Rattle.record_base.specs.declared.op.Op.{Op}
use Rattle.record_base.specs.declared.op.Op.TheVariants as op
use Rattle.record_base.specs.declared.numeric_effecter.SetNumericEffecter.{SetNumericEffecter}
use Rattle.text_fields.specs.declared.field.Field.TheVariants as field
use Rattle.text_fields.specs.Numeric.{sized_bytes, AreValueBytes}
use Rattle.text_fields.specs.Trees.{HasNumber}

-- the step holds a change of a numeric effecter's value: the bytes of its number, of its size
pub record HoldsNumericEffecter (tree : Members) (set : SetNumericEffecter) : Type 0 where
  pub effecter : HasNumber field.Effecter tree set.effecter
  pub size : HasNumber field.Size tree set.size
  pub value : AreValueBytes set.value (sized_bytes field.Value tree)

-- the operation is of this kind, and the step holds it
abbrev pub HoldsOp : Members → Op → Type 0
HoldsOp tree (op.NumericEffecter set) = HoldsNumericEffecter tree set
HoldsOp tree other = ⊥
