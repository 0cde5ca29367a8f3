use Rattle.std.proofs.Common.{◌≡◌, ◌++◌, ◌+◌, ◌*◌, take, length}
use Rattle.bios_attr.specs.Attributes.{handles_of}
use Rattle.bios_attr.proofs.entries.push_handles.Given as goal

abbrev pub invariant-loop-text : goal.invariant-loop-text
invariant-loop-text l = (l.fields ≡ l.fn.fields ++ handles_of l.strings (take l.text-index l.texts)) × (length l.fields ≡ length l.fn.fields + 2 * l.text-index)
