-- Laws of LAN parameters: a value has at most one proof that it is valid, and names that compare as equal are the same.
use Rattle.std.proofs.Common.{◌≡◌, ℕ, List, true, refl, nat_cmp}
use Rattle.std.proofs.Props.{props}
use Rattle.std.specs.Ordering.{is_eq, ordering_then}
use Rattle.std.specs.declared.cmp.Ordering.{Ordering}
use Rattle.std.specs.declared.cmp.Ordering.TheVariants.{Less, Equal, Greater}
use Rattle.record_base.specs.Numbers.{ChannelNumber}
use Rattle.record_base.specs.declared.lan_parameter.LanAddress.TheVariants.{Ip, SubnetMask, DefaultGateway}
use Rattle.record_base.specs.declared.lan_parameter.LanParameter.{LanParameter}
use Rattle.record_base.specs.declared.lan_parameter.LanParameter.TheVariants.{Address, AddressSource, Vlan}
use Rattle.record_base.specs.declared.lan_parameter.ParameterOnChannel.{ParameterOnChannel}
use Rattle.record_base.specs.contracts.lan_parameter.LanParameterOrd.TheImpl as parameter_ord
use Rattle.record_base.specs.Lan.{IsLanData, IsLanParam}

IsLanData-prop : (parameter : LanParameter) (value : List ℕ) → IsProp (IsLanData parameter value)
IsLanData-prop (Address which) value = hlevel props
IsLanData-prop AddressSource value = hlevel props
IsLanData-prop Vlan value = hlevel props

pub IsLanParam-prop : (parameter : LanParameter) (value : List ℕ) → IsProp (IsLanParam parameter value)
IsLanParam-prop parameter value = hlevel (props, IsLanData-prop)

-- the order of parameters
abbrev pub parameter_cmp : LanParameter → LanParameter → Ordering
parameter_cmp = (parameter_ord.ghosts).cmp

exact_parameter : (a b : LanParameter) → is_eq (parameter_cmp a b) ≡ true → a ≡ b
exact_parameter (Address Ip) (Address Ip) h = refl
exact_parameter (Address SubnetMask) (Address SubnetMask) h = refl
exact_parameter (Address DefaultGateway) (Address DefaultGateway) h = refl
exact_parameter AddressSource AddressSource h = refl
exact_parameter Vlan Vlan h = refl
exact_parameter _ _ h = cc

-- two comparisons that are equal one after the other are each equal
both_equal : (r s : Ordering) → is_eq (ordering_then r s) ≡ true → (is_eq r ≡ true) × (is_eq s ≡ true)
both_equal Equal s h = (refl, h)
both_equal Less s h = cc
both_equal Greater s h = cc

same_parts : (a b : ParameterOnChannel) → a.channel ≡ b.channel → a.parameter ≡ b.parameter → a ≡ b
same_parts a b p q i = record { channel = p i; parameter = q i }

-- where channels that compare as equal are the same, so are names
pub exact_on : ((c d : ChannelNumber) → is_eq (nat_cmp c.number d.number) ≡ true → c ≡ d)
    → (a b : ParameterOnChannel) → is_eq (ordering_then (nat_cmp a.channel.number b.channel.number) (parameter_cmp a.parameter b.parameter)) ≡ true → a ≡ b
exact_on exact a b h = let parts = both_equal _ _ h in same_parts a b (exact _ _ parts.0) (exact_parameter _ _ parts.1)
