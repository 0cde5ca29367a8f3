use Rattle.std.proofs.Common.{◌≡◌, map, take}
use Rattle.toml.specs.View.{view}
use Rattle.text_board.specs.Holds.{parts_of, on_channel}
use Rattle.text_board.proofs.channel_items.accesses_on.Given as goal

abbrev pub invariant-loop-place : goal.invariant-loop-place
invariant-loop-place l = map parts_of l.accesses.items ≡ on_channel l.fn.channel.number 1 (map view (take l.place l.values))
