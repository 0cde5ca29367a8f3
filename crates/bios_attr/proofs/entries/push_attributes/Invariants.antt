use Rattle.std.proofs.Common.{◌≡◌, ◌++◌, take}
use Rattle.bios_attr.specs.declared.bios_table.BiosTable.TheVariants.{Attributes}
use Rattle.bios_attr.specs.Attributes.{attribute_entries}
use Rattle.bios_attr.specs.TableEntry.{AreEntriesOf}
use Rattle.bios_attr.specs.TableContents.{attribute_contents}
use Rattle.bios_attr.proofs.entries.push_attributes.Given as goal

abbrev pub invariant-loop-attribute : goal.invariant-loop-attribute
invariant-loop-attribute l = (l.table.items ≡ l.fn.table.items ++ attribute_entries l.strings (take l.attribute-index l.attributes))
    × AreEntriesOf Attributes (attribute_contents l.strings (take l.attribute-index l.attributes))
