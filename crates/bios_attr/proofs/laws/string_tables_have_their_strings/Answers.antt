use Rattle.bios_attr.proofs.BodyFacts.{string_table}
use Rattle.bios_attr.proofs.laws.string_tables_have_their_strings.Goals as goal

pub returns : goal.returns
returns c = string_table
