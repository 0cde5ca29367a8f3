use Rattle.std.proofs.Common.{◌≤◌, length, map, ◌∙◌}
use Rattle.std.proofs.lemmas.List.{length-map}
use Rattle.std.proofs.lemmas.Slice.Zip.{AllZip-long}
use Rattle.record_base.specs.AttributeSizes.{most_attributes}
use Rattle.toml.specs.View.{view}
use Rattle.text_board.specs.AttributeItems.{IsAttributeIn}
use Rattle.text_board.proofs.attribute_items.attributes.Goals as goal

pub unwrap-requires : goal.unwrap-requires
unwrap-requires c =
    let found = c.in_ok-attributes.attributes.items in
    let held = c.in_ok-attributes.ensures.held in
    let long = AllZip-long IsAttributeIn (map view c.tables.result.now) found held ∙ length-map c.tables.result.now view in
    let few : length found ≤ most_attributes = rw long (rw c.requires at c.tables.ensures.few) in
    c.new.ensures.made.1 (c.in_ok-attributes.ensures.handles, few)
