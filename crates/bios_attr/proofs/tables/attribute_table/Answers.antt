use Rattle.std.proofs.Common.{rules}
use Rattle.bios_attr.proofs.Contents.{attribute_table}
use Rattle.bios_attr.proofs.tables.attribute_table.Goals as goal

pub returns-clause-contents : goal.returns-clause-contents
returns-clause-contents c =
    attribute_table c.args.strings.now c.args.attributes.now _ c.in_ok-push_attributes.ensures.whole (search rules)
