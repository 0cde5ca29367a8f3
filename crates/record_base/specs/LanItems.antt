-- The records of a channel's LAN parameters.
use Rattle.std.specs.Prelude.{ℕ, List, [], ◌∷◌}
use Rattle.record_base.specs.declared.key.Key.{Key}
use Rattle.record_base.specs.declared.key.Key.TheVariants as key
use Rattle.record_base.specs.Numbers.{ChannelNumber}
use Rattle.record_base.specs.declared.lan_parameter.LanAddress.TheVariants.{Ip, SubnetMask, DefaultGateway}
use Rattle.record_base.specs.declared.lan_parameter.LanParameter.{LanParameter}
use Rattle.record_base.specs.declared.lan_parameter.LanParameter.TheVariants.{Address, AddressSource, Vlan}
use Rattle.record_base.specs.declared.lan_parameter.ParameterOnChannel.{ParameterOnChannel}
use Rattle.record_base.specs.declared.lan.Lan.{Lan}
use Rattle.record_base.specs.Lan.{address_bytes, vlan_bytes}

-- a parameter of a channel, and the name of its record
abbrev pub parameter_on : ChannelNumber → LanParameter → ParameterOnChannel
parameter_on channel parameter = record { channel = channel; parameter = parameter }

abbrev pub lan_key : ChannelNumber → LanParameter → Key
lan_key channel parameter = key.LanParam (parameter_on channel parameter)

-- the first value of a parameter
abbrev pub lan_value : Lan → LanParameter → List ℕ
lan_value lan (Address Ip) = address_bytes lan.ip
lan_value lan (Address SubnetMask) = address_bytes lan.mask
lan_value lan (Address DefaultGateway) = address_bytes lan.gateway
lan_value lan AddressSource = lan.source ∷ []
lan_value lan Vlan = vlan_bytes lan.vlan
