use Rattle.std.proofs.Common.{◌≡◌, take, map}
use Rattle.record_base.specs.declared.key.Key.TheVariants as key
use Rattle.record_base.specs.Attribute.{attribute_value}
use Rattle.cfg_records.proofs.board_file.BoardFile.attribute_records.Given as goal

abbrev pub invariant-loop-attribute : goal.invariant-loop-attribute
invariant-loop-attribute l = l.pairs.items ≡ map (λ a. (key.BiosAttribute a.handle, attribute_value a)) (take l.attribute-index l.self.attributes.items)
