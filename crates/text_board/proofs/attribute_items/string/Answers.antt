use Rattle.std.proofs.Common.{◌≡◌, List, [], is_some, Some, refl, ap, subst}
use Rattle.toml.specs.Data.{Members}
use Rattle.toml.specs.View.{table_view}
use Rattle.record_base.specs.declared.attribute_range.TextLengths.{TextLengths}
use Rattle.record_base.specs.AttributeRange.{AllowsText}
use Rattle.text_fields.specs.declared.field.Field.TheVariants as field
use Rattle.text_fields.specs.declared.row.Row.{Row}
use Rattle.text_fields.specs.declared.row.Shape.TheVariants as shape
use Rattle.text_fields.specs.Attributes.{string_of}
use Rattle.text_fields.specs.Faults.{field_faults}
use Rattle.text_fields.proofs.CheckedRows.{there}
use Rattle.text_fields.proofs.Rows.{Value}
use Rattle.text_board.specs.declared.tables.TheConstants.{STRING}
use Rattle.text_board.proofs.AttributeFields.{SizedText, sized_text, sized_is}
use Rattle.text_board.proofs.attribute_items.string.Goals as goal

pub string_in-requires : goal.string_in-requires
string_in-requires c =
    let tree : Members = table_view c.args.item.now.table.now in
    let lengths : TextLengths = c.lengths-lengths.result in
    let sound : field_faults STRING tree ≡ [] = subst (λ (rows : List Row). field_faults rows tree ≡ []) c.requires c.args.item.now.sound in
    let v : Value tree field.Default shape.SizedText = there tree field.Default STRING sound refl in
    let sized : SizedText v.value lengths = sized_text tree v.value lengths c.lengths-lengths.ensures.least c.lengths-lengths.ensures.most v.within in
    rw v.found (ap is_some sized.found)

pub string_in-requires-2 : goal.string_in-requires-2
string_in-requires-2 c =
    let tree : Members = table_view c.args.item.now.table.now in
    let lengths : TextLengths = c.lengths-lengths.result in
    let sound : field_faults STRING tree ≡ [] = subst (λ (rows : List Row). field_faults rows tree ≡ []) c.requires c.args.item.now.sound in
    let v : Value tree field.Current shape.SizedText = there tree field.Current STRING sound refl in
    let sized : SizedText v.value lengths = sized_text tree v.value lengths c.lengths-lengths.ensures.least c.lengths-lengths.ensures.most v.within in
    rw v.found (ap is_some sized.found)

pub unwrap-requires : goal.unwrap-requires
unwrap-requires c =
    let tree : Members = table_view c.args.item.now.table.now in
    let lengths : TextLengths = c.lengths-lengths.result in
    let sound : field_faults STRING tree ≡ [] = subst (λ (rows : List Row). field_faults rows tree ≡ []) c.requires c.args.item.now.sound in
    let v : Value tree field.Default shape.SizedText = there tree field.Default STRING sound refl in
    let w : Value tree field.Current shape.SizedText = there tree field.Current STRING sound refl in
    let first : SizedText v.value lengths = sized_text tree v.value lengths c.lengths-lengths.ensures.least c.lengths-lengths.ensures.most v.within in
    let second : SizedText w.value lengths = sized_text tree w.value lengths c.lengths-lengths.ensures.least c.lengths-lengths.ensures.most w.within in
    let default_is : string_of v.value ≡ Some c.string_in.result.now = rw v.found at c.string_in.ensures in
    let current_is : string_of w.value ≡ Some c.string_in-2.result.now = rw w.found at c.string_in-2.ensures in
    let default : AllowsText lengths c.in_ok-default.default.items = rw c.in_ok-default.ensures.held (sized_is v.value lengths c.string_in.result.now first default_is) in
    let current : AllowsText lengths c.in_ok-current.current.items = rw c.in_ok-current.ensures.held (sized_is w.value lengths c.string_in-2.result.now second current_is) in
    c.new.ensures.made.1 (default, current)
