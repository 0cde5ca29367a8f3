use Rattle.std.proofs.Common.{ap, ◌∙◌, sym}
use Rattle.toml.specs.View.{table_view}
use Rattle.text_fields.specs.Ranges.{has_type}
use Rattle.text_fields.proofs.CheckedRows.{there}
use Rattle.text_fields.proofs.checked.Checked.table.Goals as goal

pub table_in-requires : goal.table_in-requires
table_in-requires c =
    let v = there (table_view c.args.self.now.table.now) c.args.field c.args.self.now.rows.now c.args.self.now.sound c.requires.always in
    rw v.found (ap (λ s. has_type s v.value) (sym c.requires.table) ∙ v.typed)
