use Rattle.std.proofs.Common.{sym, ◌∙◌, ap}
use Rattle.std.proofs.lemmas.List.Folds.{list_all-map}
use Rattle.std.specs.List.{list_all, list_any}
use Rattle.toml.specs.View.{view, table_view}
use Rattle.text_fields.specs.declared.field.Field.TheVariants as field
use Rattle.text_fields.specs.declared.row.Need.TheVariants as need
use Rattle.text_fields.specs.Ranges.{is_offset, is_number}
use Rattle.text_fields.proofs.Rows.{all_checked}
use Rattle.plan_file.proofs.Changes.{offsets_there}
use Rattle.text_fields.proofs.Members.{listed_view}
use Rattle.plan_file.proofs.kind.event_enable.events.Goals as goal

pub mask_of-requires : goal.mask_of-requires
mask_of-requires c =
    let tree = table_view c.args.step.now.table.now in
    sym (list_all-map is_offset view c.members_in.result.now)
    ∙ ap (list_all is_offset) c.members_in.ensures
    ∙ offsets_there tree field.Assert need.UnlessLeave (all_checked tree c.args.step.now.sound c.requires).1.1.1.1.0

pub mask_of-requires-2 : goal.mask_of-requires-2
mask_of-requires-2 c =
    let tree = table_view c.args.step.now.table.now in
    sym (list_all-map is_offset view c.members_in-2.result.now)
    ∙ ap (list_all is_offset) c.members_in-2.ensures
    ∙ offsets_there tree field.Deassert need.UnlessLeave (all_checked tree c.args.step.now.sound c.requires).1.1.1.1.1.0

pub returns : goal.returns
returns c = record {
  assertions = λ offset. c.mask_of.ensures offset ∙ listed_view offset c.members_in.result.now ∙ ap (list_any (is_number offset)) c.members_in.ensures;
  deassertions = λ offset. c.mask_of-2.ensures offset ∙ listed_view offset c.members_in-2.result.now ∙ ap (list_any (is_number offset)) c.members_in-2.ensures;
}
