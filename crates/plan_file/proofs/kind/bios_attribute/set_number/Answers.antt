use Rattle.std.proofs.Common.{is_some, ◌∙◌, ap}
use Rattle.toml.specs.View.{table_view}
use Rattle.text_fields.proofs.Rows.{all_checked}
use Rattle.plan_file.proofs.AttributeSteps.{number_there}
use Rattle.plan_file.proofs.kind.bios_attribute.set_number.Goals as goal

pub unwrap-number-requires : goal.unwrap-number-requires
unwrap-number-requires c =
    let tree = table_view c.args.step.now.table.now in
    let sound = all_checked tree c.args.step.now.sound c.requires.rows in
    ap is_some c.number.ensures ∙ number_there tree c.requires.first c.requires.second sound.1.0 sound.1.1.1.0
