use Rattle.std.proofs.Common.{◌≡◌, [], map, take, drop}
use Rattle.std.specs.List.{AllZip}
use Rattle.toml.specs.View.{view}
use Rattle.record_base.specs.Distinct.{NamesDiffer}
use Rattle.text_board.specs.Faults.{item_faults}
use Rattle.text_board.specs.Items.{InTable}
use Rattle.text_board.proofs.items.items_of.Given as goal

abbrev pub invariant-loop-value : goal.invariant-loop-value
invariant-loop-value g l = record {
  zip : AllZip (InTable g.R.ArrayReader.holds) (map view (take l.value-index l.values)) l.items.items;
  left : item_faults g.R.ArrayReader.item_at (g.R.ArrayReader.rows l.reader) g.R.ArrayReader.named [] (map view l.values)
      ≡ item_faults g.R.ArrayReader.item_at (g.R.ArrayReader.rows l.reader) g.R.ArrayReader.named (map view (take l.value-index l.values)) (map view (drop l.value-index l.values));
  differ : NamesDiffer g.R.Entry.Numbered.number_of l.items.items;
}
