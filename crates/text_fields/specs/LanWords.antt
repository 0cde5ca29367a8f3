-- The keys of the fields of `[[lan]]`.
use Rattle.std.specs.Prelude.{ℕ, List, codes}
use Rattle.text_fields.specs.declared.lan_field.LanField.{LanField}
use Rattle.text_fields.specs.declared.lan_field.LanField.TheVariants as lan

-- the key of a field
abbrev pub lan_word : LanField → List ℕ
lan_word lan.Lan = codes "lan"
lan_word lan.Ip = codes "ip"
lan_word lan.Source = codes "source"
lan_word lan.Mask = codes "mask"
lan_word lan.Gateway = codes "gateway"
lan_word lan.Vlan = codes "vlan"
