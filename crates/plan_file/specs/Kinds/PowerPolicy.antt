-- What a step that sets the power restore policy holds.
pub mod Laws
pub mod Kind
use Rattle.toml.specs.Data.{Members}
use Rattle.record_base.specs.declared.op.Op.{Op}
use Rattle.record_base.specs.declared.op.Op.TheVariants as op
use Rattle.record_base.specs.declared.power_policy.SetPowerPolicy.{SetPowerPolicy}
use Rattle.text_fields.specs.declared.field.Field.TheVariants as field
use Rattle.text_fields.specs.Trees.{HasNumber}

-- the step holds a change of the power restore policy
abbrev pub HoldsPowerPolicy : Members → SetPowerPolicy → Type 0
HoldsPowerPolicy tree set = HasNumber field.Policy tree set.policy

-- the operation is of this kind, and the step holds it
abbrev pub HoldsOp : Members → Op → Type 0
HoldsOp tree (op.PowerPolicy set) = HoldsPowerPolicy tree set
HoldsOp tree other = ⊥
