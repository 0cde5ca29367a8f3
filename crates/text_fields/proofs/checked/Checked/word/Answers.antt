use Rattle.std.proofs.Common.{arith}
use Rattle.toml.specs.View.{table_view}
use Rattle.text_fields.proofs.Rows.{below, at_least, within}
use Rattle.text_fields.proofs.CheckedRows.{numbered}
use Rattle.text_fields.proofs.checked.Checked.word.Goals as goal

pub word_in-requires : goal.word_in-requires
word_in-requires c =
    let n = numbered (table_view c.args.self.now.table.now) c.args.field 65535 c.args.self.now.rows.now c.args.self.now.sound c.requires in
    below 65536 n.0 (omega (arith, n.1))

pub returns-clause-least : goal.returns-clause-least
returns-clause-least c =
    at_least c.word_in.result (numbered (table_view c.args.self.now.table.now) c.args.field 65535 c.args.self.now.rows.now c.args.self.now.sound c.requires).0 c.word_in.ensures

pub returns-clause-most : goal.returns-clause-most
returns-clause-most c =
    within c.word_in.result (numbered (table_view c.args.self.now.table.now) c.args.field 65535 c.args.self.now.rows.now c.args.self.now.sound c.requires).0 c.word_in.ensures
