use Rattle.std.proofs.Common.{◌≡◌, ◌∙◌, Some, is_some, ap, sym, refl}
use Rattle.toml.specs.View.{table_view}
use Rattle.record_base.specs.NumericSize.{bytes_of}
use Rattle.text_fields.specs.declared.field.Field.TheVariants as field
use Rattle.text_fields.specs.Numeric.{size_in, sized_in, sized_bytes}
use Rattle.text_fields.proofs.Rows.{all_checked}
use Rattle.text_fields.proofs.SizedFields.{named_in, told_in}
use Rattle.plan_file.proofs.kind.numeric_effecter.numeric_value.Goals as goal

pub unwrap-size-requires : goal.unwrap-size-requires
unwrap-size-requires c =
    let tree = table_view c.args.step.now.table.now in
    ap is_some (c.size_in.ensures ∙ (named_in tree (all_checked tree c.args.step.now.sound c.requires).1.0).found)

pub unwrap-number-requires : goal.unwrap-number-requires
unwrap-number-requires c =
    let tree = table_view c.args.step.now.table.now in
    let size = c.unwrap-size.result in
    let is : size_in tree ≡ Some size = sym c.size_in.ensures ∙ c.unwrap-size.ensures in
    ap is_some (c.sized_in.ensures ∙ (told_in tree size field.Value is (all_checked tree c.args.step.now.sound c.requires).1.1.0).found)

pub returns : goal.returns
returns c =
    let tree = table_view c.args.step.now.table.now in
    let size = c.unwrap-size.result in
    let number = c.unwrap-number.result in
    let is : size_in tree ≡ Some size = sym c.size_in.ensures ∙ c.unwrap-size.ensures in
    let told : sized_in size field.Value tree ≡ Some number = sym c.sized_in.ensures ∙ c.unwrap-number.ensures in
    let bytes : sized_bytes field.Value tree ≡ Some (bytes_of size number) = rw (is, told) refl in
    rw bytes c.numeric_bytes.ensures
