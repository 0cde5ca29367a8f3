-- What a step that sets the global enables holds.
pub mod Laws
pub mod Kind
use Rattle.toml.specs.Data.{Members}
use Rattle.record_base.specs.declared.op.Op.{Op}
use Rattle.record_base.specs.declared.op.Op.TheVariants as op
use Rattle.record_base.specs.declared.global_enables.SetGlobalEnables.{SetGlobalEnables}
use Rattle.text_fields.specs.declared.field.Field.TheVariants as field
use Rattle.text_fields.specs.Trees.{HasNumber}

-- the step holds a change of the global enables
abbrev pub HoldsGlobalEnables : Members → SetGlobalEnables → Type 0
HoldsGlobalEnables tree set = HasNumber field.Value tree set.byte

-- the operation is of this kind, and the step holds it
abbrev pub HoldsOp : Members → Op → Type 0
HoldsOp tree (op.GlobalEnables set) = HoldsGlobalEnables tree set
HoldsOp tree other = ⊥
