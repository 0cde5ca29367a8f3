use Rattle.std.proofs.Common.{◌≡◌, Some, is_some, ap, sym, ◌∙◌}
use Rattle.toml.specs.View.{view, table_view}
use Rattle.text_fields.specs.Lan.{lan_parameter_in}
use Rattle.text_fields.proofs.Rows.{all_checked}
use Rattle.plan_file.proofs.LanSteps.{named_in, data_there}
use Rattle.plan_file.proofs.kind.lan_param.change.Goals as goal

pub unwrap-parameter-requires : goal.unwrap-parameter-requires
unwrap-parameter-requires c =
    let tree = table_view c.args.step.now.table.now in
    ap is_some (c.lan_parameter_in.ensures ∙ (named_in tree (all_checked tree c.args.step.now.sound c.requires).1.0).found)

pub unwrap-requires : goal.unwrap-requires
unwrap-requires c =
    let tree = table_view c.args.step.now.table.now in
    let named : lan_parameter_in tree ≡ Some c.unwrap-parameter.result = sym c.lan_parameter_in.ensures ∙ c.unwrap-parameter.ensures in
    c.lan_change.ensures.made ∙ data_there tree (view c.value.result.now) c.unwrap-parameter.result (all_checked tree c.args.step.now.sound c.requires).1.1.0 c.value.ensures.found named
