use Rattle.bios_attr.specs.EntryLaws.{string_back, string_told}
use Rattle.bios_attr.proofs.laws.strings_are_read_as_written.Goals as goal

pub returns-clause-written : goal.returns-clause-written
returns-clause-written c = string_back

pub returns-clause-read : goal.returns-clause-read
returns-clause-read c = string_told
