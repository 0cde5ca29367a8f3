use Rattle.std.proofs.Common.{◌≡◌, ◌≤◌, length, map, is_some, true, sym, ◌∙◌, ap, subst, ℕ}
use Rattle.std.proofs.lemmas.List.Folds.{list_all-map}
use Rattle.std.proofs.lemmas.Slice.Zip.{AllZip-long}
use Rattle.toml.specs.Data.{Data}
use Rattle.toml.specs.View.{view, table_view}
use Rattle.record_base.specs.AttributeRange.{AllowsIndexes}
use Rattle.record_base.specs.AttributeSizes.{most_indexes}
use Rattle.text_fields.specs.declared.field.Field.TheVariants as field
use Rattle.text_fields.specs.Trees.{members_in}
use Rattle.text_fields.specs.Attributes.{text_of, are_values}
use Rattle.text_board.specs.AttributeItems.{IsTextIn}
use Rattle.text_board.proofs.AttributeFields.{values_are}
use Rattle.text_board.proofs.attribute_items.enumeration.Goals as goal

pub texts_of-requires : goal.texts_of-requires
texts_of-requires c =
    let ds = map view c.members_of.result.now in
    let are : are_values ds ≡ true = rw (c.requires, ← c.members_of.ensures) at c.value.ensures.within in
    sym (list_all-map (λ (d : Data). is_some (text_of d)) view c.members_of.result.now) ∙ (values_are ds are).1

pub unwrap-requires : goal.unwrap-requires
unwrap-requires c =
    let tree = table_view c.args.item.now.table.now in
    let ds = map view c.members_of.result.now in
    let are : are_values ds ≡ true = rw (c.requires, ← c.members_of.ensures) at c.value.ensures.within in
    let values = c.in_ok-values.values.items in
    let long : length values ≡ length ds = AllZip-long IsTextIn ds values c.in_ok-values.ensures.held in
    let few : length values ≤ most_indexes = rw long (values_are ds are).0 in
    let count : length (members_in field.Values tree) ≡ length values = ap length (c.value.ensures.listed ∙ sym c.members_of.ensures) ∙ sym long in
    let default : AllowsIndexes (length values) c.indexes-default.result = subst (λ (n : ℕ). AllowsIndexes n c.indexes-default.result) count c.indexes-default.ensures.allowed in
    let current : AllowsIndexes (length values) c.indexes-current.result = subst (λ (n : ℕ). AllowsIndexes n c.indexes-current.result) count c.indexes-current.ensures.allowed in
    c.new.ensures.made.1 (few, default, current)
