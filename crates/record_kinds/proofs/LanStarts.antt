-- LAN parameters begin with values that they can have, and a channel's are found by its number.
use Rattle.std.proofs.Common.{◌≡◌, ◌==◌, true, refl, subst, eq-eqb}
use Rattle.record_base.specs.Numbers.{ChannelNumber}
use Rattle.record_base.specs.declared.lan_parameter.LanAddress.TheVariants.{Ip, SubnetMask, DefaultGateway}
use Rattle.record_base.specs.declared.lan_parameter.LanParameter.{LanParameter}
use Rattle.record_base.specs.declared.lan_parameter.LanParameter.TheVariants.{Address, AddressSource, Vlan}
use Rattle.record_base.specs.declared.lan.Lan.{Lan}
use Rattle.record_base.specs.InverseLaws.{tested_same}
use Rattle.record_base.specs.Keys.{same_key}
use Rattle.record_base.specs.KeyLaws.{exact_key, same_key_self}
use Rattle.record_base.specs.Lan.{IsLanParam}
use Rattle.record_base.specs.LanItems.{lan_key, lan_value}
use Rattle.record_base.specs.MaskLaws.{same_test}
use Rattle.record_base.specs.NumberLaws.{same_field}
use Rattle.cfg_records.specs.declared.board_file.BoardFile.{BoardFile}
use Rattle.cfg_records.specs.Records.{Pair}
use Rattle.cfg_records.specs.LanBoards.{lan_pairs}
use Rattle.cfg_records.proofs.BoardPairs.{pairs_at}
use Rattle.cfg_records.proofs.LanPlaces.{lan_place, lan_channel}

-- a channel's record of the parameter
abbrev pub lan_pair : LanParameter → Lan → Pair
lan_pair parameter lan = (lan_key lan.number parameter, lan_value lan parameter)

-- the records at a parameter's place are its own
pub lan_pairs_at : (file : BoardFile) (p : LanParameter) → lan_pairs file p ≡ pairs_at file (lan_place p)
lan_pairs_at file (Address Ip) = refl
lan_pairs_at file AddressSource = refl
lan_pairs_at file (Address SubnetMask) = refl
lan_pairs_at file (Address DefaultGateway) = refl
lan_pairs_at file Vlan = refl

-- keys of one parameter are one where their channels are
pub same_lan_key : (p : LanParameter) (a b : ChannelNumber) → same_key (lan_key a p) (lan_key b p) ≡ (a.number == b.number)
same_lan_key p a b =
    same_test _ _
    (λ h. eq-eqb a.number b.number (lan_channel (exact_key (lan_key a p) (lan_key b p) h)))
    (λ h. subst (λ (c : ChannelNumber). same_key (lan_key a p) (lan_key c p) ≡ true) (same_field a b (tested_same _ _ h)) (same_key_self (lan_key a p)))

-- a parameter begins with a value that it can have
pub lan_begins : (p : LanParameter) (lan : Lan) → IsLanParam p (lan_value lan p)
lan_begins (Address Ip) lan = record { long = refl; body = tt }
lan_begins AddressSource lan = record { long = refl; body = lan.is_source }
lan_begins (Address SubnetMask) lan = record { long = refl; body = tt }
lan_begins (Address DefaultGateway) lan = record { long = refl; body = tt }
lan_begins Vlan lan = record { long = refl; body = lan.is_vlan }
