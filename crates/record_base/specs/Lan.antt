-- The LAN parameters that a controller keeps (IPMI 2.0, LAN configuration parameters): 3, IP address, 4, IP address source, 6, subnet mask,
-- 12, default gateway address, and 20, 802.1q VLAN ID. Addresses go most significant byte first.
use Rattle.std.specs.Prelude.{◌≡◌, ℕ, ◌≤◌, ◌==◌, List, [], ◌∷◌, length, slice_index, Option, Some, None, if◌then◌else◌}
use Rattle.record_base.specs.declared.lan_parameter.LanAddress.TheVariants.{Ip, SubnetMask, DefaultGateway}
use Rattle.record_base.specs.declared.lan_parameter.LanParameter.{LanParameter}
use Rattle.record_base.specs.declared.lan_parameter.LanParameter.TheVariants.{Address, AddressSource, Vlan}
use Rattle.record_base.specs.declared.lan_parameter.Ipv4Address.{Ipv4Address}
use Rattle.record_base.specs.declared.lan_parameter.VlanBytes.{VlanBytes}
use Rattle.record_base.specs.declared.lan_parameter.LanChange.{LanChange}
use Rattle.record_base.specs.declared.lan_parameter.LanChange.TheVariants as change
use Rattle.record_base.specs.Vlan.{vlan_high}

-- the number of a parameter: its selector
abbrev pub lan_selector : LanParameter → ℕ
lan_selector (Address Ip) = 3
lan_selector AddressSource = 4
lan_selector (Address SubnetMask) = 6
lan_selector (Address DefaultGateway) = 12
lan_selector Vlan = 20

-- the parameter of this number
abbrev pub lan_parameter_at : ℕ → Option LanParameter
lan_parameter_at number =
    if number == 3 then Some (Address Ip)
    else (if number == 4 then Some AddressSource
    else (if number == 6 then Some (Address SubnetMask)
    else (if number == 12 then Some (Address DefaultGateway)
    else (if number == 20 then Some Vlan else None))))

-- how long a parameter's value is
abbrev pub lan_length : LanParameter → ℕ
lan_length (Address which) = 4
lan_length AddressSource = 1
lan_length Vlan = 2

-- the bytes of an address, and of a VLAN
abbrev pub address_bytes : Ipv4Address → List ℕ
address_bytes address = address.first ∷ address.second ∷ address.third ∷ address.fourth ∷ []

abbrev pub vlan_bytes : VlanBytes → List ℕ
vlan_bytes vlan = vlan.low ∷ vlan.high ∷ []

-- bytes that the parameter can have: a source is at most 4, and a VLAN has no ignored bit
abbrev pub IsLanData : LanParameter → List ℕ → Type 0
IsLanData (Address which) value = Unit {0}
IsLanData AddressSource value = slice_index value 0 ≤ 4
IsLanData Vlan value = vlan_high (slice_index value 1) ≡ slice_index value 1

-- a value that the parameter can have
pub record IsLanParam (parameter : LanParameter) (value : List ℕ) : Type 0 where
  pub long : length value ≡ lan_length parameter
  pub body : IsLanData parameter value

-- ---- changes

-- the parameter that the change changes
abbrev pub changed_parameter : LanChange → LanParameter
changed_parameter (change.Address which address) = Address which
changed_parameter (change.AddressSource byte) = AddressSource
changed_parameter (change.Vlan vlan) = Vlan

-- the data of the change, behind the selector
abbrev pub lan_data : LanChange → List ℕ
lan_data (change.Address which address) = address_bytes address
lan_data (change.AddressSource byte) = byte ∷ []
lan_data (change.Vlan vlan) = vlan_bytes vlan
