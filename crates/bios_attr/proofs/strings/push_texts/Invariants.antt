use Rattle.std.proofs.Common.{◌≡◌, take}
use Rattle.bios_attr.specs.Attributes.{with_texts}
use Rattle.bios_attr.proofs.strings.push_texts.Given as goal

abbrev pub invariant-loop-text : goal.invariant-loop-text
invariant-loop-text l = l.strings.items ≡ with_texts l.fn.strings.items (take l.text-index l.texts)
