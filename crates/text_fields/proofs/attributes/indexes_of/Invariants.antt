use Rattle.std.proofs.Common.{map, take}
use Rattle.std.specs.List.{AllZip}
use Rattle.toml.specs.View.{view}
use Rattle.text_fields.specs.Trees.{IsNaturalIn}
use Rattle.text_fields.proofs.attributes.indexes_of.Given as goal

abbrev pub invariant-loop-value : goal.invariant-loop-value
invariant-loop-value l = AllZip IsNaturalIn (map view (take l.value-index l.values)) l.indexes
