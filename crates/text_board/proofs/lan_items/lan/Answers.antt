use Rattle.std.proofs.Common.{◌≡◌, ◌≤◌, length, ◌∙◌, rules}
use Rattle.toml.specs.View.{view, table_view}
use Rattle.text_fields.specs.Trees.{bytes_in}
use Rattle.text_fields.proofs.Rows.{all_checked}
use Rattle.text_board.proofs.LanFields.{channel_below, some_bytes}
use Rattle.text_board.proofs.lan_items.lan.Goals as goal

pub channel_in-channel-requires : goal.channel_in-channel-requires
channel_in-channel-requires c =
    let long : length c.args.listed ≡ 16 = search rules in
    channel_below c.args.listed (table_view c.args.item.now.table.now) long (all_checked (table_view c.args.item.now.table.now) c.args.item.now.sound c.requires).0

pub unwrap-ip-requires : goal.unwrap-ip-requires
unwrap-ip-requires c = c.address.ensures.made ∙ some_bytes (bytes_in 4 (view c.value.result.now)) (rw c.requires at c.value.ensures.within)

pub unwrap-mask-requires : goal.unwrap-mask-requires
unwrap-mask-requires c = c.address-2.ensures.made ∙ some_bytes (bytes_in 4 (view c.value-2.result.now)) (rw c.requires at c.value-2.ensures.within)

pub unwrap-gateway-requires : goal.unwrap-gateway-requires
unwrap-gateway-requires c = c.address-3.ensures.made ∙ some_bytes (bytes_in 4 (view c.value-3.result.now)) (rw c.requires at c.value-3.ensures.within)

pub unwrap-requires : goal.unwrap-requires
unwrap-requires c =
    let few : c.byte-source.result ≤ 4 = rw c.requires at c.byte-source.ensures.most in
    c.new.ensures.made.1 (few, rw c.unwrap-vlan.ensures at c.vlan.ensures.clear)
