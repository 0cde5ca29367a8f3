use Rattle.std.proofs.Common.{◌≡◌, ◌≤◌, List, [], refl, subst, arith}
use Rattle.toml.specs.View.{table_view}
use Rattle.record_base.specs.AttributeSizes.{most_text}
use Rattle.text_fields.specs.declared.field.Field.TheVariants as field
use Rattle.text_fields.specs.declared.row.Row.{Row}
use Rattle.text_fields.specs.Faults.{field_faults}
use Rattle.text_fields.proofs.CheckedRows.{there}
use Rattle.text_board.specs.declared.tables.TheConstants.{STRING}
use Rattle.text_board.proofs.AttributeFields.{most_told}
use Rattle.text_board.proofs.attribute_items.lengths.Goals as goal

pub overflow_cast-natural : goal.overflow_cast-natural
overflow_cast-natural c =
    let tree = table_view c.args.item.now.table.now in
    let sound : field_faults STRING tree ≡ [] = subst (λ (rows : List Row). field_faults rows tree ≡ []) c.requires c.args.item.now.sound in
    let most : c.natural.result ≤ most_text = most_told tree c.natural.result (there tree field.Most STRING sound refl) c.natural.ensures in
    omega (arith, most)

pub unwrap-requires : goal.unwrap-requires
unwrap-requires c =
    let tree = table_view c.args.item.now.table.now in
    let sound : field_faults STRING tree ≡ [] = subst (λ (rows : List Row). field_faults rows tree ≡ []) c.requires c.args.item.now.sound in
    c.new.ensures.made.1 (most_told tree c.natural.result (there tree field.Most STRING sound refl) c.natural.ensures)
