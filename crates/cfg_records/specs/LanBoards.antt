-- The records of a board file's LAN parameters.
use Rattle.std.specs.Prelude.{List, [], ◌∷◌, map}
use Rattle.record_base.specs.declared.lan_parameter.LanAddress.TheVariants.{Ip, SubnetMask, DefaultGateway}
use Rattle.record_base.specs.declared.lan_parameter.LanParameter.{LanParameter}
use Rattle.record_base.specs.declared.lan_parameter.LanParameter.TheVariants.{Address, AddressSource, Vlan}
use Rattle.record_base.specs.LanItems.{lan_key, lan_value}
use Rattle.cfg_records.specs.declared.board_file.BoardFile.{BoardFile}
use Rattle.cfg_records.specs.Records.{Pair}

-- the keys of one parameter with their values, in the channels' order
abbrev pub lan_pairs : BoardFile → LanParameter → List Pair
lan_pairs file parameter = map (λ l. (lan_key l.number parameter, lan_value l parameter)) file.lans.items

-- the same of each parameter, in the order of their numbers
abbrev pub lan_kinds : BoardFile → List (List Pair)
lan_kinds file =
    lan_pairs file (Address Ip)
    ∷ lan_pairs file AddressSource
    ∷ lan_pairs file (Address SubnetMask)
    ∷ lan_pairs file (Address DefaultGateway)
    ∷ lan_pairs file Vlan
    ∷ []
