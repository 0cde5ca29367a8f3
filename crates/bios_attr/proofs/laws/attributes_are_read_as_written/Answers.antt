use Rattle.bios_attr.specs.EntryLaws.{attribute_back, attribute_told}
use Rattle.bios_attr.proofs.laws.attributes_are_read_as_written.Goals as goal

pub returns-clause-written : goal.returns-clause-written
returns-clause-written c = attribute_back

pub returns-clause-read : goal.returns-clause-read
returns-clause-read c = attribute_told
