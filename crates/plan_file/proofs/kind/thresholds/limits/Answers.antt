use Rattle.toml.specs.View.{table_view}
use Rattle.text_fields.specs.declared.field.Field.TheVariants as field
use Rattle.text_fields.specs.declared.row.Need.TheVariants as need
use Rattle.text_fields.proofs.Rows.{all_checked}
use Rattle.plan_file.proofs.Changes.{at_most}
use Rattle.plan_file.proofs.kind.thresholds.limits.Goals as goal

pub limit-requires : goal.limit-requires
limit-requires c = at_most (table_view c.args.step.now.table.now) field.LowerNonCritical 0 255 need.Never (all_checked (table_view c.args.step.now.table.now) c.args.step.now.sound c.requires).1.0

pub limit-requires-2 : goal.limit-requires-2
limit-requires-2 c = at_most (table_view c.args.step.now.table.now) field.LowerCritical 0 255 need.Never (all_checked (table_view c.args.step.now.table.now) c.args.step.now.sound c.requires).1.1.0

pub limit-requires-3 : goal.limit-requires-3
limit-requires-3 c = at_most (table_view c.args.step.now.table.now) field.LowerNonRecoverable 0 255 need.Never (all_checked (table_view c.args.step.now.table.now) c.args.step.now.sound c.requires).1.1.1.0

pub limit-requires-4 : goal.limit-requires-4
limit-requires-4 c = at_most (table_view c.args.step.now.table.now) field.UpperNonCritical 0 255 need.Never (all_checked (table_view c.args.step.now.table.now) c.args.step.now.sound c.requires).1.1.1.1.0

pub limit-requires-5 : goal.limit-requires-5
limit-requires-5 c = at_most (table_view c.args.step.now.table.now) field.UpperCritical 0 255 need.Never (all_checked (table_view c.args.step.now.table.now) c.args.step.now.sound c.requires).1.1.1.1.1.0

pub limit-requires-6 : goal.limit-requires-6
limit-requires-6 c = at_most (table_view c.args.step.now.table.now) field.UpperNonRecoverable 0 255 need.Never (all_checked (table_view c.args.step.now.table.now) c.args.step.now.sound c.requires).1.1.1.1.1.1.0
