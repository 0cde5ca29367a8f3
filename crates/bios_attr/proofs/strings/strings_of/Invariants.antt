use Rattle.std.proofs.Common.{◌≡◌, take, []}
use Rattle.bios_attr.specs.Attributes.{with_attributes}
use Rattle.bios_attr.proofs.strings.strings_of.Given as goal

abbrev pub invariant-loop-attribute : goal.invariant-loop-attribute
invariant-loop-attribute l = l.strings.items ≡ with_attributes [] (take l.attribute-index l.attributes)
