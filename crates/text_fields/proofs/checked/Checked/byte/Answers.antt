use Rattle.std.proofs.Common.{arith}
use Rattle.toml.specs.View.{table_view}
use Rattle.text_fields.proofs.Rows.{below, at_least, within}
use Rattle.text_fields.proofs.CheckedRows.{numbered}
use Rattle.text_fields.proofs.checked.Checked.byte.Goals as goal

pub byte_in-requires : goal.byte_in-requires
byte_in-requires c =
    let n = numbered (table_view c.args.self.now.table.now) c.args.field 255 c.args.self.now.rows.now c.args.self.now.sound c.requires in
    below 256 n.0 (omega (arith, n.1))

pub returns-clause-least : goal.returns-clause-least
returns-clause-least c =
    at_least c.byte_in.result (numbered (table_view c.args.self.now.table.now) c.args.field 255 c.args.self.now.rows.now c.args.self.now.sound c.requires).0 c.byte_in.ensures

pub returns-clause-most : goal.returns-clause-most
returns-clause-most c =
    within c.byte_in.result (numbered (table_view c.args.self.now.table.now) c.args.field 255 c.args.self.now.rows.now c.args.self.now.sound c.requires).0 c.byte_in.ensures
