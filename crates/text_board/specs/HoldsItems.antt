-- The items of a board that a tree holds, by the protocol that reaches them.
use Rattle.std.specs.List.{AllZip}
use Rattle.toml.specs.Data.{Members}
use Rattle.text_fields.specs.declared.field.Field.TheVariants as field
use Rattle.text_fields.specs.Trees.{members_in}
use Rattle.text_board.specs.declared.item_groups.IpmiItems.{IpmiItems}
use Rattle.text_board.specs.declared.item_groups.PldmItems.{PldmItems}
use Rattle.text_board.specs.AttributeItems.{IsAttributeIn}
use Rattle.text_board.specs.Holds.{IsSensorIn, IsStateIn, IsNumericIn, HoldChannels}
use Rattle.text_board.specs.LanItems.{lans_in, IsLanIn}

-- the tree holds the items that IPMI reaches
pub record HoldsIpmi (tree : Members) (items : IpmiItems) : Type 0 where
  pub sensors : AllZip IsSensorIn (members_in field.Sensor tree) items.sensors.items
  pub channels : HoldChannels (members_in field.Channel tree) items.channels.channels.items items.channels.sessionless.items items.channels.accesses.items
  pub lans : AllZip IsLanIn (lans_in tree) items.lans.items

-- the tree holds the items that PLDM reaches
pub record HoldsPldm (tree : Members) (items : PldmItems) : Type 0 where
  pub attributes : AllZip IsAttributeIn (members_in field.Attribute tree) items.attributes.items
  pub states : AllZip IsStateIn (members_in field.State tree) items.state_effecters.items
  pub effecters : AllZip IsNumericIn (members_in field.Numeric tree) items.numeric_effecters.items
