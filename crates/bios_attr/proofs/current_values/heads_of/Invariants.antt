use Rattle.std.proofs.Common.{◌≡◌, take, map}
use Rattle.bios_attr.specs.Values.{head_of}
use Rattle.bios_attr.proofs.current_values.heads_of.Given as goal

abbrev pub invariant-loop-attribute : goal.invariant-loop-attribute
invariant-loop-attribute l = l.heads.items ≡ map head_of (take l.attribute-index l.attributes)
