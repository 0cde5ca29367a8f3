use Rattle.bios_attr.specs.ValueEntryLaws.{entry_back, entry_told}
use Rattle.bios_attr.proofs.laws.entries_are_read_as_written.Goals as goal

pub returns-clause-written : goal.returns-clause-written
returns-clause-written c = entry_back

pub returns-clause-read : goal.returns-clause-read
returns-clause-read c = entry_told
