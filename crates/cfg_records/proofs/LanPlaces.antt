-- Where the records of LAN parameters stand among those of a board file: behind all others, one parameter after the other.
use Rattle.std.proofs.Common.{◌≡◌, ℕ, ◌<◌, ◌==◌, length, IsTrue, refl, ap, arith}
use Rattle.record_base.specs.declared.key.Key.{Key}
use Rattle.record_base.specs.declared.key.Key.TheVariants as key
use Rattle.record_base.specs.Numbers.{ChannelNumber}
use Rattle.record_base.specs.declared.lan_parameter.LanAddress.TheVariants.{Ip, SubnetMask, DefaultGateway}
use Rattle.record_base.specs.declared.lan_parameter.LanParameter.{LanParameter}
use Rattle.record_base.specs.declared.lan_parameter.LanParameter.TheVariants.{Address, AddressSource, Vlan}
use Rattle.record_base.specs.declared.lan.Lan.{Lan}
use Rattle.record_base.specs.Lan.{lan_length}
use Rattle.record_base.specs.LanItems.{lan_key, lan_value}

-- the place of a parameter's records
abbrev pub lan_place : LanParameter → ℕ
lan_place (Address Ip) = 16
lan_place AddressSource = 17
lan_place (Address SubnetMask) = 18
lan_place (Address DefaultGateway) = 19
lan_place Vlan = 20

pub lan_has_place : (p : LanParameter) → lan_place p < 21
lan_has_place (Address Ip) = omega arith
lan_has_place AddressSource = omega arith
lan_has_place (Address SubnetMask) = omega arith
lan_has_place (Address DefaultGateway) = omega arith
lan_has_place Vlan = omega arith

-- the channel that a key names
abbrev lan_number : Key → ℕ
lan_number (key.LanParam on) = on.channel.number
lan_number _ = 0

-- one key names one channel
pub lan_channel : {c d : ChannelNumber} {p : LanParameter} → lan_key c p ≡ lan_key d p → c.number ≡ d.number
lan_channel same = ap lan_number same

-- the values have the length of their parameter
pub lan_fits : (lan : Lan) (p : LanParameter) → IsTrue (length (lan_value lan p) == lan_length p)
lan_fits lan (Address Ip) = refl
lan_fits lan AddressSource = refl
lan_fits lan (Address SubnetMask) = refl
lan_fits lan (Address DefaultGateway) = refl
lan_fits lan Vlan = refl
