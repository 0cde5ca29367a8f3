use Rattle.std.proofs.Common.{◌≡◌, length, sym, ap, ◌∙◌}
use Rattle.std.proofs.lemmas.List.{length-map}
use Rattle.toml.specs.View.{view, table_view}
use Rattle.text_fields.specs.declared.field.Field.TheVariants as field
use Rattle.text_fields.specs.Trees.{members_in}
use Rattle.text_fields.proofs.attributes.are_own_indexes.Goals as goal

pub returns : goal.returns
returns c =
    let as_many : length (members_in field.Values (table_view c.args.item.now)) ≡ length c.members_in-count.result.now = ap length (sym c.members_in-count.ensures) ∙ length-map c.members_in-count.result.now view in
    rw as_many c.are_indexes.ensures
