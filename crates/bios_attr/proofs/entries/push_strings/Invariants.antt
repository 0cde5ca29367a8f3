use Rattle.std.proofs.Common.{◌≡◌, ◌++◌, take}
use Rattle.bios_attr.specs.Attributes.{string_entries}
use Rattle.bios_attr.proofs.entries.push_strings.Given as goal

abbrev pub invariant-loop-handle : goal.invariant-loop-handle
invariant-loop-handle l = l.table.items ≡ l.fn.table.items ++ string_entries 0 (take l.handle l.strings)
