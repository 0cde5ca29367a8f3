use Rattle.std.proofs.Common.{◌≡◌, List, true, refl}
use Rattle.toml.specs.View.{table_view}
use Rattle.text_fields.specs.declared.field.Field.TheVariants as field
use Rattle.text_fields.specs.declared.row.Row.{Row}
use Rattle.text_fields.specs.declared.row.Shape.TheVariants as shape
use Rattle.text_fields.specs.CheckedRows.{row_of, is_always_there, shape_of}
use Rattle.text_board.proofs.AttributeFields.{each_kind}
use Rattle.text_board.proofs.attribute_items.attribute.Goals as goal

pub text-requires-clause-always : goal.text-requires-clause-always
text-requires-clause-always c =
    rw c.requires (each_kind (λ (rows : List Row). is_always_there (row_of field.NameText rows) ≡ true) refl refl refl refl (table_view c.args.item.now.table.now))

pub text-requires-clause-text : goal.text-requires-clause-text
text-requires-clause-text c =
    rw c.requires (each_kind (λ (rows : List Row). shape_of (row_of field.NameText rows) ≡ shape.ShortText) refl refl refl refl (table_view c.args.item.now.table.now))

pub flag-requires-clause-always : goal.flag-requires-clause-always
flag-requires-clause-always c =
    rw c.requires (each_kind (λ (rows : List Row). is_always_there (row_of field.ReadOnly rows) ≡ true) refl refl refl refl (table_view c.args.item.now.table.now))

pub flag-requires-clause-flag : goal.flag-requires-clause-flag
flag-requires-clause-flag c =
    rw c.requires (each_kind (λ (rows : List Row). shape_of (row_of field.ReadOnly rows) ≡ shape.Flag) refl refl refl refl (table_view c.args.item.now.table.now))
