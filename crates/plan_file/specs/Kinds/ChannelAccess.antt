-- What a step that sets the access of a channel in one of its stores holds.
pub mod Laws
pub mod Kind
use Rattle.std.specs.Prelude.{◌≡◌, Some, option_and_then}
use Rattle.toml.specs.Data.{Members}
use Rattle.record_base.specs.declared.op.Op.{Op}
use Rattle.record_base.specs.declared.op.Op.TheVariants as op
use Rattle.record_base.specs.declared.channel.ChannelChange.{ChannelChange}
use Rattle.record_base.specs.declared.channel.ChannelChange.TheVariants as channel
use Rattle.record_base.specs.declared.channel.SetChannelAccess.{SetChannelAccess}
use Rattle.text_fields.specs.declared.field.Field.TheVariants as field
use Rattle.text_fields.specs.Trees.{in_field, HasNumber, LacksField}
use Rattle.text_fields.specs.Channels.{store_of}

-- the step says what of a channel's access and limit changes: those that it gives
abbrev pub HoldsChannelChange : Members → ChannelChange → Type 0
HoldsChannelChange tree (channel.Access access) = HasNumber field.Access tree access.number × LacksField field.Limit tree
HoldsChannelChange tree (channel.Limit limit) = LacksField field.Access tree × HasNumber field.Limit tree limit.number
HoldsChannelChange tree (channel.Both access limit) = HasNumber field.Access tree access.number × HasNumber field.Limit tree limit.number

-- the step holds a change of a channel's access in one of its stores
pub record HoldsChannelAccess (tree : Members) (set : SetChannelAccess) : Type 0 where
  pub channel : HasNumber field.Channel tree set.channel.number
  pub store : option_and_then store_of (in_field field.Store tree) ≡ Some set.store
  pub change : HoldsChannelChange tree set.change

-- the operation is of this kind, and the step holds it
abbrev pub HoldsOp : Members → Op → Type 0
HoldsOp tree (op.ChannelAccess set) = HoldsChannelAccess tree set
HoldsOp tree other = ⊥
