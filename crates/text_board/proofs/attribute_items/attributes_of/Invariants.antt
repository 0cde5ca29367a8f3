use Rattle.std.proofs.Common.{◌≡◌, map, take, drop}
use Rattle.std.specs.List.{AllZip}
use Rattle.toml.specs.View.{view}
use Rattle.text_board.specs.Faults.{attribute_faults, attribute_faults_from}
use Rattle.record_base.specs.Attributes.{AreInPlace}
use Rattle.text_board.specs.AttributeItems.{IsAttributeIn}
use Rattle.text_board.proofs.attribute_items.attributes_of.Given as goal

abbrev pub invariant-loop-place : goal.invariant-loop-place
invariant-loop-place l = record {
  zip : AllZip IsAttributeIn (map view (take l.place l.values)) l.attributes.items;
  handles : AreInPlace l.attributes.items;
  left : attribute_faults (map view l.values) ≡ attribute_faults_from l.place (map view (drop l.place l.values));
}
