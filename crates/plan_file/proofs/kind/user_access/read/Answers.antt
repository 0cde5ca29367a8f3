use Rattle.toml.specs.View.{table_view}
use Rattle.text_fields.proofs.Rows.{all_checked}
use Rattle.plan_file.proofs.UserSteps.{limit_below}
use Rattle.plan_file.proofs.kind.user_access.read.Goals as goal

pub byte_in-requires : goal.byte_in-requires
byte_in-requires c = limit_below (table_view c.args.step.now.table.now) (all_checked (table_view c.args.step.now.table.now) c.args.step.now.sound c.requires).1.1.0
