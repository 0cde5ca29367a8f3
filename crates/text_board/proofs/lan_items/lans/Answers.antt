use Rattle.std.proofs.Common.{◌≡◌, ap, ◌∙◌, map, List, [], subst}
use Rattle.std.specs.Prelude.{IfOk, IfErr}
use Rattle.toml.specs.View.{view, table_view}
use Rattle.text_fields.specs.declared.field.Field.TheVariants as field
use Rattle.text_board.specs.declared.fault.Item.TheVariants as item
use Rattle.text_board.specs.declared.fault.FileFault.{FileFault}
use Rattle.text_board.specs.Faults.{item_faults, lan_faults, IsFirstFault}
use Rattle.text_board.specs.LanItems.{listed_channels, listed_in, lan_rows, lans_in}
use Rattle.text_board.proofs.lan_items.lans.Goals as goal

-- the faults of the items are those of the file
same_faults : (c : goal.After-distinct_items)
    → item_faults item.Lan (λ _. lan_rows c.listed_channels.result) field.Channel [] (map view c.tables-2.result.now) ≡ lan_faults (table_view c.args.top.now.table.now)
same_faults c =
    let tree = table_view c.args.top.now.table.now in
    let listed : c.listed_channels.result ≡ listed_in tree = c.listed_channels.ensures ∙ ap listed_channels c.tables.ensures.held in
    let items : map view c.tables-2.result.now ≡ lans_in tree = c.tables-2.ensures.held in
    ap (λ l. item_faults item.Lan (λ _. lan_rows l) field.Channel [] (map view c.tables-2.result.now)) listed ∙ ap (item_faults item.Lan (λ _. lan_rows (listed_in tree)) field.Channel []) items

pub returns-clause-sound : goal.returns-clause-sound
returns-clause-sound c = subst (λ (faults : List FileFault). IfOk c.distinct_items.result (λ _. faults ≡ [])) (same_faults c) c.distinct_items.ensures.sound

pub returns-clause-err : goal.returns-clause-err
returns-clause-err c = subst (λ (faults : List FileFault). IfErr c.distinct_items.result (IsFirstFault faults)) (same_faults c) c.distinct_items.ensures.err
