-- The LAN parameters of a board file: the fields of an item `[[lan]]`, and what it holds.
use Rattle.std.specs.Prelude.{ℕ, ◌==◌, Bool, List, ◌∷◌, map, drop}
use Rattle.std.specs.List.{list_any}
use Rattle.toml.specs.Data.{Data, Members}
use Rattle.record_base.specs.declared.lan.Lan.{Lan}
use Rattle.record_base.specs.Lan.{address_bytes, vlan_bytes}
use Rattle.text_fields.specs.declared.field.Field.TheVariants as field
use Rattle.text_fields.specs.declared.lan_field.LanField.TheVariants as lan
use Rattle.text_fields.specs.declared.lan.LanShape.TheVariants as lan_shape
use Rattle.text_fields.specs.declared.row.Need.TheVariants as need
use Rattle.text_fields.specs.declared.row.Row.{Row}
use Rattle.text_fields.specs.declared.row.Shape.TheVariants as shape
use Rattle.text_board.specs.declared.lan_items.TheConstants.{NUMBERS, LAN}
use Rattle.text_fields.specs.Trees.{number_in, table_of, members_in, HasNumber, HasNumbers}
use Rattle.text_fields.specs.Ranges.{passes}

-- the channel has the number
abbrev pub has_number : ℕ → Data → Bool
has_number n channel = passes (λ m. m == n) (number_in field.Number (table_of channel))

-- one of these channels has the number
abbrev pub is_number_of : List Data → ℕ → Bool
is_number_of channels n = list_any (has_number n) channels

-- of each number of a channel, whether one of these channels has it
abbrev pub listed_channels : List Data → List Bool
listed_channels channels = map (is_number_of channels) NUMBERS

-- of each number of a channel, whether a file lists it, with sessions or without
abbrev pub listed_in : Members → List Bool
listed_in tree = listed_channels (members_in field.Channel tree)

-- the fields of an item in a file that lists these channels
abbrev pub lan_rows : List Bool → List Row
lan_rows listed = record { 0 = field.Channel; 1 = shape.Lan (lan_shape.Channel listed); 2 = need.Always } ∷ drop 1 LAN

-- the items of a file
abbrev pub lans_in : Members → List Data
lans_in tree = members_in (field.Lan lan.Lan) tree

-- the table holds the LAN parameters of a channel
pub record HoldsLan (tree : Members) (held : Lan) : Type 0 where
  pub numbered : HasNumber field.Channel tree held.number.number
  pub ip : HasNumbers (field.Lan lan.Ip) tree (address_bytes held.ip)
  pub source : HasNumber (field.Lan lan.Source) tree held.source
  pub mask : HasNumbers (field.Lan lan.Mask) tree (address_bytes held.mask)
  pub gateway : HasNumbers (field.Lan lan.Gateway) tree (address_bytes held.gateway)
  pub vlan : HasNumbers (field.Lan lan.Vlan) tree (vlan_bytes held.vlan)

-- the member of an array holds the LAN parameters of a channel
abbrev pub IsLanIn : Data → Lan → Type 0
IsLanIn d held = HoldsLan (table_of d) held

-- the number of their channel
abbrev pub channel_of : Lan → ℕ
channel_of held = held.number.number
