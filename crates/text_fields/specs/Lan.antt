-- LAN parameters in files: the channels that have them, their numbers and their data.
use Rattle.std.specs.Prelude.{ℕ, ◌==◌, nat_le, Bool, true, false, List, slice_index, get_or, Option, is_some, option_and_then}
use Rattle.std.specs.Option.{option_map_or}
use Rattle.record_base.specs.declared.lan_parameter.LanParameter.{LanParameter}
use Rattle.record_base.specs.declared.lan_parameter.LanParameter.TheVariants as parameter
use Rattle.record_base.specs.Lan.{lan_length, lan_parameter_at}
use Rattle.record_base.specs.Vlan.{vlan_high}
use Rattle.toml.specs.Data.{Data, Members}
use Rattle.text_fields.specs.declared.field.Field.TheVariants as field
use Rattle.text_fields.specs.declared.lan.LanShape.{LanShape}
use Rattle.text_fields.specs.declared.lan.LanShape.TheVariants as lan
use Rattle.text_fields.specs.Trees.{natural, bytes_in, number_in}

-- bytes that the parameter can have: a source is at most 4, and a VLAN has no ignored bit
abbrev pub are_lan_bytes : LanParameter → List ℕ → Bool
are_lan_bytes (parameter.Address which) bytes = true
are_lan_bytes parameter.AddressSource bytes = nat_le (slice_index bytes 0) 4
are_lan_bytes parameter.Vlan bytes = vlan_high (slice_index bytes 1) == slice_index bytes 1

-- data of the parameter: as many such bytes as it has
abbrev pub are_lan_data : LanParameter → Data → Bool
are_lan_data named d = option_map_or (are_lan_bytes named) (bytes_in (lan_length named) d) false

-- the LAN parameter that an item names
abbrev pub lan_parameter_in : Members → Option LanParameter
lan_parameter_in tree = option_and_then lan_parameter_at (number_in field.Param tree)

-- a field of this shape has a number, and not a list
abbrev pub is_lan_number : LanShape → Bool
is_lan_number (lan.Channel listed) = true
is_lan_number lan.Parameter = true
is_lan_number other = false

-- the item can have the value: the number of a channel that is listed, or of a parameter, or data of this parameter, or of the one that the item names
abbrev pub is_lan_value : Members → LanShape → Data → Bool
is_lan_value tree (lan.Channel listed) d = option_map_or (λ n. get_or listed n false) (natural d) false
is_lan_value tree lan.Parameter d = is_some (option_and_then lan_parameter_at (natural d))
is_lan_value tree (lan.Bytes named) d = are_lan_data named d
is_lan_value tree lan.Named d = option_map_or (λ named. are_lan_data named d) (lan_parameter_in tree) false
