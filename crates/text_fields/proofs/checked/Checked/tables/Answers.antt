use Rattle.std.proofs.Common.{length, map, sym, ap, ◌∙◌}
use Rattle.std.proofs.lemmas.List.{length-map}
use Rattle.std.proofs.lemmas.List.Folds.{list_all-map}
use Rattle.std.specs.List.{list_all}
use Rattle.toml.specs.View.{view, table_view}
use Rattle.text_fields.specs.Ranges.{is_table}
use Rattle.text_fields.proofs.CheckedRows.{tables_there}
use Rattle.text_fields.proofs.checked.Checked.tables.Goals as goal

pub returns-clause-tables : goal.returns-clause-tables
returns-clause-tables c =
    let tables = tables_there (table_view c.args.self.now.table.now) c.args.field c.args.self.now.rows.now c.args.self.now.sound c.requires in
    sym (list_all-map is_table view c.members_in.result.now) ∙ ap (list_all is_table) c.members_in.ensures ∙ tables.0

pub returns-clause-few : goal.returns-clause-few
returns-clause-few c =
    let tables = tables_there (table_view c.args.self.now.table.now) c.args.field c.args.self.now.rows.now c.args.self.now.sound c.requires in
    rw (sym (length-map c.members_in.result.now view) ∙ ap length c.members_in.ensures) tables.1
