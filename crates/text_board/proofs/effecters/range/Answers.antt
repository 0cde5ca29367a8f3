use Rattle.std.proofs.Common.{◌≡◌, ◌∙◌, Some, is_some, ap, sym}
use Rattle.toml.specs.View.{table_view}
use Rattle.text_fields.specs.declared.field.Field.TheVariants as field
use Rattle.text_fields.specs.Numeric.{size_in, sized_in}
use Rattle.text_fields.proofs.Rows.{all_checked}
use Rattle.text_fields.proofs.Sizes.{field_fits}
use Rattle.text_fields.proofs.SizedFields.{named_in, told_in}
use Rattle.text_board.proofs.EffecterFields.{bounds_in, named_is}
use Rattle.text_board.proofs.effecters.range.Goals as goal

pub unwrap-size-requires : goal.unwrap-size-requires
unwrap-size-requires c =
    let tree = table_view c.args.item.now.table.now in
    ap is_some (c.size_in.ensures ∙ (named_in tree (all_checked tree c.args.item.now.sound c.requires).1.0).found)

pub unwrap-lower-requires : goal.unwrap-lower-requires
unwrap-lower-requires c =
    let tree = table_view c.args.item.now.table.now in
    let size = c.unwrap-size.result in
    let is : size_in tree ≡ Some size = sym c.size_in.ensures ∙ c.unwrap-size.ensures in
    ap is_some (c.sized_in.ensures ∙ (told_in tree size field.Lower is (all_checked tree c.args.item.now.sound c.requires).1.1.1.0).found)

pub unwrap-upper-requires : goal.unwrap-upper-requires
unwrap-upper-requires c =
    let tree = table_view c.args.item.now.table.now in
    let size = c.unwrap-size.result in
    let is : size_in tree ≡ Some size = sym c.size_in.ensures ∙ c.unwrap-size.ensures in
    ap is_some (c.sized_in-2.ensures ∙ (bounds_in tree size is (all_checked tree c.args.item.now.sound c.requires).1.1.1.1.0).is_high)

pub unwrap-requires : goal.unwrap-requires
unwrap-requires c =
    let tree = table_view c.args.item.now.table.now in
    let size = c.unwrap-size.result in
    let lower : sized_in size field.Lower tree ≡ Some c.unwrap-lower.result = sym c.sized_in.ensures ∙ c.unwrap-lower.ensures in
    let upper : sized_in size field.Upper tree ≡ Some c.unwrap-upper.result = sym c.sized_in-2.ensures ∙ c.unwrap-upper.ensures in
    c.new.ensures.made.1 (field_fits size field.Lower tree c.unwrap-lower.result lower, field_fits size field.Upper tree c.unwrap-upper.result upper)

pub returns : goal.returns
returns c =
    let tree = table_view c.args.item.now.table.now in
    let size = c.unwrap-size.result in
    let is : size_in tree ≡ Some size = sym c.size_in.ensures ∙ c.unwrap-size.ensures in
    let coded = named_is tree size (named_in tree (all_checked tree c.args.item.now.sound c.requires).1.0) is in
    let lower : sized_in size field.Lower tree ≡ Some c.unwrap-lower.result = sym c.sized_in.ensures ∙ c.unwrap-lower.ensures in
    let upper : sized_in size field.Upper tree ≡ Some c.unwrap-upper.result = sym c.sized_in-2.ensures ∙ c.unwrap-upper.ensures in
    let parts = rw c.unwrap.ensures at c.new.ensures.parts in
    record { size = rw parts.0 coded; lower = rw (parts.0, parts.1) lower; upper = rw (parts.0, parts.2) upper }
