use Rattle.std.proofs.Common.{rules}
use Rattle.bios_attr.proofs.Contents.{value_table}
use Rattle.bios_attr.proofs.tables.Tables.show.Goals as goal

pub returns-clause-contents : goal.returns-clause-contents
returns-clause-contents g c =
    value_table c.args.self.now.heads (g.V.CurrentValues.value_of c.args.current.now) c.show_values.new.table.items (search rules) (search rules)
