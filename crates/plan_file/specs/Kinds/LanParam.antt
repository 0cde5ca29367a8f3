-- What a step that sets a LAN parameter holds.
pub mod Laws
pub mod Kind
use Rattle.std.specs.Prelude.{◌≡◌, length, Some, option_and_then}
use Rattle.toml.specs.Data.{Members}
use Rattle.record_base.specs.declared.op.Op.{Op}
use Rattle.record_base.specs.declared.op.Op.TheVariants as op
use Rattle.record_base.specs.declared.lan_parameter.LanChange.{LanChange}
use Rattle.record_base.specs.declared.lan_parameter.SetLanParam.{SetLanParam}
use Rattle.record_base.specs.Lan.{lan_selector, changed_parameter, lan_data}
use Rattle.text_fields.specs.declared.field.Field.TheVariants as field
use Rattle.text_fields.specs.Trees.{in_field, bytes_in, HasNumber}

-- the step names a LAN parameter, and gives the data that it becomes
pub record HoldsLanChange (tree : Members) (change : LanChange) : Type 0 where
  pub named : HasNumber field.Param tree (lan_selector (changed_parameter change))
  pub given : option_and_then (bytes_in (length (lan_data change))) (in_field field.BootData tree) ≡ Some (lan_data change)

-- the step holds a change of a LAN parameter
pub record HoldsLanParam (tree : Members) (set : SetLanParam) : Type 0 where
  pub channel : HasNumber field.Channel tree set.channel.number
  pub change : HoldsLanChange tree set.change

-- the operation is of this kind, and the step holds it
abbrev pub HoldsOp : Members → Op → Type 0
HoldsOp tree (op.LanParam set) = HoldsLanParam tree set
HoldsOp tree other = ⊥
