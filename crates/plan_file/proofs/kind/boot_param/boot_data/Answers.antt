use Rattle.std.proofs.Common.{◌∙◌, is_some, option_map, ap, sym}
use Rattle.toml.specs.View.{view, table_view}
use Rattle.text_fields.proofs.Rows.{all_checked}
use Rattle.plan_file.proofs.BootSteps.{named_in, data_there}
use Rattle.plan_file.proofs.kind.boot_param.boot_data.Goals as goal

pub unwrap-parameter-requires : goal.unwrap-parameter-requires
unwrap-parameter-requires c =
    let tree = table_view c.args.step.now.table.now in
    ap is_some (c.parameter_in.ensures ∙ (named_in tree (all_checked tree c.args.step.now.sound c.requires).0).found)

pub unwrap-requires : goal.unwrap-requires
unwrap-requires c =
    let tree = table_view c.args.step.now.table.now in
    let has = sym c.in_field.ensures ∙ ap (option_map (λ v. view v.now)) c.in-Some.is in
    c.boot_change.ensures.made ∙ data_there tree (view c.in-Some.value.now) c.unwrap-parameter.result (all_checked tree c.args.step.now.sound c.requires).1.1.0 has (sym c.parameter_in.ensures ∙ c.unwrap-parameter.ensures)
