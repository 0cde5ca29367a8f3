use Rattle.std.proofs.Common.{◌≡◌, ◌≤◌, ℕ, List, [], true, length, map, sym, ◌∙◌, arith, subst}
use Rattle.std.proofs.lemmas.List.{length-map}
use Rattle.std.proofs.lemmas.List.Folds.{list_all-map}
use Rattle.toml.specs.Data.{Data}
use Rattle.toml.specs.View.{view, table_view}
use Rattle.record_base.specs.AttributeSizes.{most_indexes}
use Rattle.text_fields.specs.declared.field.Field.TheVariants as field
use Rattle.text_fields.specs.declared.row.Row.{Row}
use Rattle.text_fields.specs.Faults.{field_faults}
use Rattle.text_fields.specs.Trees.{natural, members_in}
use Rattle.text_fields.specs.Attributes.{is_below, are_indexes}
use Rattle.text_fields.proofs.Members.{listed}
use Rattle.text_board.proofs.AttributeFields.{few_values, all_bytes, indexes_allowed}
use Rattle.text_board.proofs.attribute_items.indexes.Goals as goal

pub indexes_of-requires-clause-few : goal.indexes_of-requires-clause-few
indexes_of-requires-clause-few c =
    let tree = table_view c.args.item.now.table.now in
    let values = c.members_of.result.now in
    let ds = map view values in
    let count : ℕ = length (members_in field.Values tree) in
    let are : are_indexes count count ds ≡ true = rw (c.requires.rows, c.requires.indexes, ← c.members_of.ensures) at c.value.ensures.within in
    let most : count ≤ most_indexes = few_values tree (subst (λ (rows : List Row). field_faults rows tree ≡ []) c.requires.rows c.args.item.now.sound) in
    let few : length ds ≤ count = (listed count count ds are).few in
    rw (sym (length-map values view)) (omega (arith, few, most))

pub indexes_of-requires-clause-indexes : goal.indexes_of-requires-clause-indexes
indexes_of-requires-clause-indexes c =
    let tree = table_view c.args.item.now.table.now in
    let values = c.members_of.result.now in
    let ds = map view values in
    let count : ℕ = length (members_in field.Values tree) in
    let are : are_indexes count count ds ≡ true = rw (c.requires.rows, c.requires.indexes, ← c.members_of.ensures) at c.value.ensures.within in
    let most : count ≤ most_indexes = few_values tree (subst (λ (rows : List Row). field_faults rows tree ≡ []) c.requires.rows c.args.item.now.sound) in
    sym (list_all-map (λ (d : Data). is_below 256 (natural d)) view values) ∙ all_bytes count ds most are

pub returns-clause-held : goal.returns-clause-held
returns-clause-held c = rw (c.value.ensures.listed, ← c.members_of.ensures) c.indexes_of.ensures.held

pub returns-clause-allowed : goal.returns-clause-allowed
returns-clause-allowed c =
    let tree = table_view c.args.item.now.table.now in
    let ds = map view c.members_of.result.now in
    let count : ℕ = length (members_in field.Values tree) in
    let are : are_indexes count count ds ≡ true = rw (c.requires.rows, c.requires.indexes, ← c.members_of.ensures) at c.value.ensures.within in
    indexes_allowed count ds c.indexes_of.result are c.indexes_of.ensures.held
