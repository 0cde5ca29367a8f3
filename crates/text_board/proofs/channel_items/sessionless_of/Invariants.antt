use Rattle.std.proofs.Common.{map, take}
use Rattle.std.specs.List.{AllZip}
use Rattle.toml.specs.View.{view}
use Rattle.text_board.specs.Holds.{IsNumberIn, without_sessions}
use Rattle.text_board.proofs.channel_items.sessionless_of.Given as goal

abbrev pub invariant-loop-value : goal.invariant-loop-value
invariant-loop-value l = AllZip IsNumberIn (without_sessions (map view (take l.value-index l.values))) l.channels.items
