use Rattle.std.proofs.Common.{is_some, ap, ◌∙◌}
use Rattle.toml.specs.View.{table_view}
use Rattle.text_fields.proofs.CheckedRows.{natural_there}
use Rattle.text_fields.proofs.checked.Checked.natural.Goals as goal

pub unwrap-requires : goal.unwrap-requires
unwrap-requires c = ap is_some c.number.ensures ∙ natural_there (table_view c.args.self.now.table.now) c.args.field c.args.self.now.rows.now c.args.self.now.sound c.requires
