use Rattle.std.proofs.Common.{map, take}
use Rattle.std.specs.List.{AllZip}
use Rattle.toml.specs.View.{view}
use Rattle.text_board.specs.Holds.{IsRecordIn}
use Rattle.text_board.proofs.board.records_of.Given as goal

abbrev pub invariant-loop-value : goal.invariant-loop-value
invariant-loop-value l = AllZip IsRecordIn (map view (take l.value-index l.values)) l.records.items
