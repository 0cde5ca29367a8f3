use Rattle.std.proofs.Common.{arith}
use Rattle.toml.specs.View.{table_view}
use Rattle.text_fields.proofs.Rows.{below, at_least, within}
use Rattle.text_fields.proofs.CheckedRows.{numbered}
use Rattle.text_fields.proofs.checked.Checked.number.Goals as goal

pub number_in-requires : goal.number_in-requires
number_in-requires c =
    let n = numbered (table_view c.args.self.now.table.now) c.args.field 4294967295 c.args.self.now.rows.now c.args.self.now.sound c.requires in
    below 4294967296 n.0 (omega (arith, n.1))

pub returns-clause-least : goal.returns-clause-least
returns-clause-least c =
    at_least c.number_in.result (numbered (table_view c.args.self.now.table.now) c.args.field 4294967295 c.args.self.now.rows.now c.args.self.now.sound c.requires).0 c.number_in.ensures

pub returns-clause-most : goal.returns-clause-most
returns-clause-most c =
    within c.number_in.result (numbered (table_view c.args.self.now.table.now) c.args.field 4294967295 c.args.self.now.rows.now c.args.self.now.sound c.requires).0 c.number_in.ensures
