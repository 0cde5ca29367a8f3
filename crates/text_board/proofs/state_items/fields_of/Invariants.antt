use Rattle.std.proofs.Common.{map, take}
use Rattle.std.specs.List.{AllZip}
use Rattle.toml.specs.View.{view}
use Rattle.text_board.specs.Holds.{IsFieldIn, IsPresentIn}
use Rattle.text_board.proofs.state_items.fields_of.Given as goal

abbrev pub invariant-loop-place : goal.invariant-loop-place
invariant-loop-place l = record {
  held : AllZip IsFieldIn (map view (take l.place l.lists)) l.fields.items;
  current : AllZip IsPresentIn (map view (take l.place l.states)) l.fields.items;
}
