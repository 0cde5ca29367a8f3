use Rattle.std.proofs.Common.{refl, ap, ◌∙◌, sym}
use Rattle.toml.specs.View.{view, table_view}
use Rattle.text_fields.specs.Trees.{in_field}
use Rattle.text_fields.specs.CheckedRows.{row_of, shape_of}
use Rattle.text_fields.specs.Ranges.{has_type, is_in_range}
use Rattle.text_fields.proofs.Rows.{same_value}
use Rattle.text_fields.proofs.CheckedRows.{there}
use Rattle.text_fields.proofs.checked.Checked.value.Goals as goal

pub value_in-requires : goal.value_in-requires
value_in-requires c = rw (there (table_view c.args.self.now.table.now) c.args.field c.args.self.now.rows.now c.args.self.now.sound c.requires).found refl

pub returns-clause-typed : goal.returns-clause-typed
returns-clause-typed c =
    let tree = table_view c.args.self.now.table.now in
    let v = there tree c.args.field c.args.self.now.rows.now c.args.self.now.sound c.requires in
    let same = same_value v.value (view c.value_in.result.now) (in_field c.args.field tree) v.found c.value_in.ensures in
    ap (has_type (shape_of (row_of c.args.field c.args.self.now.rows.now))) (sym same) ∙ v.typed

pub returns-clause-within : goal.returns-clause-within
returns-clause-within c =
    let tree = table_view c.args.self.now.table.now in
    let v = there tree c.args.field c.args.self.now.rows.now c.args.self.now.sound c.requires in
    let same = same_value v.value (view c.value_in.result.now) (in_field c.args.field tree) v.found c.value_in.ensures in
    ap (is_in_range tree (shape_of (row_of c.args.field c.args.self.now.rows.now))) (sym same) ∙ v.within
