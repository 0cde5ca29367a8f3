use Rattle.bios_attr.specs.TableEntryLaws.{entry_back, entry_is_read, four_or_more}
use Rattle.bios_attr.proofs.laws.table_entries_are_read_as_written.Goals as goal

pub returns-clause-written : goal.returns-clause-written
returns-clause-written c = entry_back

pub returns-clause-read : goal.returns-clause-read
returns-clause-read c = λ t bytes entry rest. entry_is_read t bytes (entry, rest)

pub returns-clause-long : goal.returns-clause-long
returns-clause-long c = four_or_more
