use Rattle.std.proofs.Common.{◌≡◌, true, None, is_some, refl, rules}
use Rattle.toml.specs.View.{table_view}
use Rattle.text_fields.specs.declared.field.Field.TheVariants as field
use Rattle.text_fields.specs.Trees.{in_field}
use Rattle.text_fields.proofs.Rows.{all_checked}
use Rattle.plan_file.proofs.UserSteps.{access_given, access_needed, limit_given}
use Rattle.plan_file.proofs.kind.channel_access.channel_change.Goals as goal

pub six_bits-requires : goal.six_bits-requires
six_bits-requires c =
    let tree = table_view c.args.step.now.table.now in
    let none : in_field field.Limit tree ≡ None = search rules in
    access_needed tree none (all_checked tree c.args.step.now.sound c.requires).1.1.0

pub six_bits-limit-requires : goal.six_bits-limit-requires
six_bits-limit-requires c =
    let tree = table_view c.args.step.now.table.now in
    let some : is_some (in_field field.Limit tree) ≡ true = search rules in
    limit_given tree (in_field field.Limit tree) refl some (all_checked tree c.args.step.now.sound c.requires).1.1.1.0

pub six_bits-requires-2 : goal.six_bits-requires-2
six_bits-requires-2 c =
    let tree = table_view c.args.step.now.table.now in
    let some : is_some (in_field field.Access tree) ≡ true = search rules in
    access_given tree (in_field field.Access tree) refl some (all_checked tree c.args.step.now.sound c.requires).1.1.0
