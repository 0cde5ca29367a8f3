use Rattle.std.proofs.Common.{sym, ◌∙◌}
use Rattle.toml.specs.View.{table_view}
use Rattle.two_wire.specs.Retries.{most_retries}
use Rattle.text_fields.specs.declared.field.Field.TheVariants as field
use Rattle.text_fields.specs.declared.row.Need.TheVariants as need
use Rattle.plan_file.specs.declared.plan.TheConstants.{PLAN}
use Rattle.text_fields.proofs.Rows.{all_sound}
use Rattle.plan_file.proofs.Changes.{at_most}
use Rattle.plan_file.proofs.plan.retries.Goals as goal

pub retries_of-requires : goal.retries_of-requires
retries_of-requires c =
    at_most (table_view c.args.tree.now) field.Retries 0 most_retries need.Never (all_sound PLAN (table_view c.args.tree.now) c.requires).0 c.in-Some.number (sym c.number.ensures ∙ c.in-Some.is)
