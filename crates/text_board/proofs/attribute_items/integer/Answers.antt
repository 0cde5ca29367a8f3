use Rattle.std.proofs.Common.{◌≡◌, List, [], refl, subst}
use Rattle.toml.specs.View.{table_view}
use Rattle.record_base.specs.declared.attribute_range.IntegerSteps.{IntegerSteps}
use Rattle.text_fields.specs.declared.field.Field.TheVariants as field
use Rattle.text_fields.specs.declared.row.Row.{Row}
use Rattle.text_fields.specs.Faults.{field_faults}
use Rattle.text_fields.proofs.CheckedRows.{there}
use Rattle.text_board.specs.declared.tables.TheConstants.{INTEGER}
use Rattle.text_board.proofs.AttributeFields.{step_allowed}
use Rattle.text_board.proofs.attribute_items.integer.Goals as goal

pub unwrap-requires : goal.unwrap-requires
unwrap-requires c =
    let tree = table_view c.args.item.now.table.now in
    let sound : field_faults INTEGER tree ≡ [] = subst (λ (rows : List Row). field_faults rows tree ≡ []) c.requires c.args.item.now.sound in
    let steps : IntegerSteps = record { lower = c.natural.result; upper = c.natural-2.result; increment = c.number.result } in
    let default = step_allowed tree field.Default steps c.natural-default.result c.natural.ensures c.natural-2.ensures c.number.ensures.held c.natural-default.ensures (there tree field.Default INTEGER sound refl) in
    let current = step_allowed tree field.Current steps c.natural-current.result c.natural.ensures c.natural-2.ensures c.number.ensures.held c.natural-current.ensures (there tree field.Current INTEGER sound refl) in
    c.new.ensures.made.1 (default, current)
