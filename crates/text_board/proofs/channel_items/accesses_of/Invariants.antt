use Rattle.std.proofs.Common.{◌≡◌, map, take}
use Rattle.toml.specs.View.{view}
use Rattle.text_board.specs.Holds.{parts_of, accesses_in, with_sessions}
use Rattle.text_board.proofs.channel_items.accesses_of.Given as goal

abbrev pub invariant-loop-value : goal.invariant-loop-value
invariant-loop-value l = map parts_of l.accesses.items ≡ accesses_in (with_sessions (map view (take l.value-index l.values)))
