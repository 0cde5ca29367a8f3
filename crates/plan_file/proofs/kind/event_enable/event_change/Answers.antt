use Rattle.std.proofs.Common.{sym, ◌∙◌}
use Rattle.toml.specs.View.{table_view}
use Rattle.text_fields.proofs.Rows.{all_checked}
use Rattle.plan_file.proofs.Changes.{disables}
use Rattle.plan_file.proofs.kind.event_enable.event_change.Goals as goal

pub returns : goal.returns
returns c =
    let tree = table_view c.args.step.now.table.now in (
      disables tree (all_checked tree c.args.step.now.sound c.requires).1.1.1.0 (sym c.has_text.ensures ∙ c.if-has_text.false) (sym c.has_text-2.ensures ∙ c.if-has_text-2.false),
      c.events-2.ensures,
    )
