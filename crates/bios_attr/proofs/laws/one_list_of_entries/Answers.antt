use Rattle.bios_attr.proofs.BodyFacts.{one_table}
use Rattle.bios_attr.proofs.laws.one_list_of_entries.Goals as goal

pub returns : goal.returns
returns c = one_table
