use Rattle.std.proofs.Common.{◌≤◌, length, map, ◌∙◌}
use Rattle.std.proofs.lemmas.List.{length-map}
use Rattle.std.proofs.lemmas.Slice.Zip.{AllZip-long}
use Rattle.toml.specs.View.{view}
use Rattle.text_board.specs.Items.{InTable}
use Rattle.text_board.proofs.items.distinct_items.Goals as goal

pub unwrap-requires : goal.unwrap-requires
unwrap-requires g c =
    let found = c.in_ok-items.items.items in
    let long = AllZip-long (InTable g.R.ArrayReader.holds) (map view c.args.values.now) found c.in_ok-items.ensures.held ∙ length-map c.args.values.now view in
    let few : length found ≤ g.row.MOST = rw long c.requires.few in
    c.new.ensures.made.1 (c.in_ok-items.ensures.differ, few)
