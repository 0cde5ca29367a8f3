use Rattle.std.proofs.Common.{ap, ◌∙◌, sym}
use Rattle.toml.specs.View.{table_view}
use Rattle.text_fields.specs.Ranges.{is_in_range}
use Rattle.text_fields.proofs.CheckedRows.{there}
use Rattle.text_fields.proofs.checked.Checked.text.Goals as goal

pub text_in-requires : goal.text_in-requires
text_in-requires c =
    let tree = table_view c.args.self.now.table.now in
    let v = there tree c.args.field c.args.self.now.rows.now c.args.self.now.sound c.requires.always in
    rw v.found (ap (λ s. is_in_range tree s v.value) (sym c.requires.text) ∙ v.within)
