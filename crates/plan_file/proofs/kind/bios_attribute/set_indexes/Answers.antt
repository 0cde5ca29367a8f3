use Rattle.std.proofs.Common.{length, sym, ◌∙◌, ap}
use Rattle.std.proofs.lemmas.List.{length-map}
use Rattle.std.proofs.lemmas.List.Folds.{list_all-map}
use Rattle.std.specs.List.{list_all, AllZip}
use Rattle.toml.specs.Data.{Data}
use Rattle.toml.specs.View.{view, table_view}
use Rattle.text_fields.specs.declared.field.Field.TheVariants as field
use Rattle.text_fields.specs.Trees.{natural, IsNaturalIn, members_in}
use Rattle.text_fields.specs.Attributes.{is_below}
use Rattle.text_fields.proofs.Rows.{all_checked}
use Rattle.plan_file.proofs.AttributeSteps.{indexes_there}
use Rattle.plan_file.proofs.kind.bios_attribute.set_indexes.Goals as goal

pub indexes_of-indexes-requires-clause-few : goal.indexes_of-indexes-requires-clause-few
indexes_of-indexes-requires-clause-few c =
    let tree = table_view c.args.step.now.table.now in
    let there = indexes_there tree c.requires.given (all_checked tree c.args.step.now.sound c.requires.rows).1.0 in
    rw (sym (length-map c.members_in.result.now view) ∙ ap length c.members_in.ensures) there.few

pub indexes_of-indexes-requires-clause-indexes : goal.indexes_of-indexes-requires-clause-indexes
indexes_of-indexes-requires-clause-indexes c =
    let tree = table_view c.args.step.now.table.now in
    let there = indexes_there tree c.requires.given (all_checked tree c.args.step.now.sound c.requires.rows).1.0 in
    sym (list_all-map (λ (d : Data). is_below 256 (natural d)) view c.members_in.result.now) ∙ ap (list_all (λ (d : Data). is_below 256 (natural d))) c.members_in.ensures ∙ there.all

pub set_to-requires-clause-given : goal.set_to-requires-clause-given
set_to-requires-clause-given c =
    let tree = table_view c.args.step.now.table.now in
    let there = indexes_there tree c.requires.given (all_checked tree c.args.step.now.sound c.requires.rows).1.0 in
    let held : AllZip IsNaturalIn (members_in field.Indexes tree) c.indexes_of-indexes.result = rw (← c.members_in.ensures) c.indexes_of-indexes.ensures.held in
    (rw (c.new.ensures, c.as_slice.ensures.value) held, (there.no_text, there.no_number))
