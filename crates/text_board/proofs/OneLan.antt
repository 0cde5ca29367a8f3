-- An item `[[lan]]` holds the LAN parameters of one channel.
use Rattle.std.proofs.Common.{◌≡◌, ◌≤◌}
use Rattle.std.proofs.Props.{props}
use mathlib.Core.HLevel.{is_prop→PathP}
use Rattle.toml.specs.Data.{Members}
use Rattle.record_base.specs.Lan.{address_bytes, vlan_bytes}
use Rattle.record_base.specs.Vlan.{vlan_high}
use Rattle.record_base.specs.NumberLaws.{same_field}
use Rattle.record_base.specs.declared.lan_parameter.Ipv4Address.{Ipv4Address}
use Rattle.record_base.specs.declared.lan_parameter.VlanBytes.{VlanBytes}
use Rattle.record_base.specs.declared.lan.Lan.{Lan}
use Rattle.text_fields.specs.declared.field.Field.{Field}
use Rattle.text_fields.specs.declared.field.Field.TheVariants as field
use Rattle.text_fields.specs.declared.lan_field.LanField.TheVariants as lan
use Rattle.text_fields.specs.Trees.{HasNumbers}
use Rattle.text_board.specs.LanItems.{HoldsLan}
use Rattle.text_fields.proofs.Unique.{one_number, one_numbers, one_pair}

one_address : (named : Field) (tree : Members) (a b : Ipv4Address) → HasNumbers named tree (address_bytes a) → HasNumbers named tree (address_bytes b) → a ≡ b
one_address named tree a b p q =
    let same = one_numbers named tree (address_bytes a) (address_bytes b) p q in
    let first : a.first ≡ b.first = cc same in
    let second : a.second ≡ b.second = cc same in
    let third : a.third ≡ b.third = cc same in
    let fourth : a.fourth ≡ b.fourth = cc same in
    λ i. record { first = first i; second = second i; third = third i; fourth = fourth i }

one_vlan : (named : Field) (tree : Members) (a b : VlanBytes) → HasNumbers named tree (vlan_bytes a) → HasNumbers named tree (vlan_bytes b) → a ≡ b
one_vlan named tree a b p q =
    let same = one_pair named tree p q in
    λ i. record { low = same.0 i; high = same.1 i }

pub one_lan : (tree : Members) (a b : Lan) → HoldsLan tree a → HoldsLan tree b → a ≡ b
one_lan tree a b p q =
    let number = same_field a.number b.number (one_number field.Channel tree a.number.number b.number.number p.numbered q.numbered) in
    let ip = one_address (field.Lan lan.Ip) tree a.ip b.ip p.ip q.ip in
    let source = one_number (field.Lan lan.Source) tree a.source b.source p.source q.source in
    let mask = one_address (field.Lan lan.Mask) tree a.mask b.mask p.mask q.mask in
    let gateway = one_address (field.Lan lan.Gateway) tree a.gateway b.gateway p.gateway q.gateway in
    let vlan = one_vlan (field.Lan lan.Vlan) tree a.vlan b.vlan p.vlan q.vlan in
    λ i. record {
      number = number i;
      ip = ip i;
      source = source i;
      mask = mask i;
      gateway = gateway i;
      vlan = vlan i;
      is_source = is_prop→PathP (λ j. source j ≤ 4) (λ j. hlevel props) a.is_source b.is_source i;
      is_vlan = is_prop→PathP (λ j. vlan_high (vlan j).high ≡ (vlan j).high) (λ j. hlevel props) a.is_vlan b.is_vlan i;
    }
