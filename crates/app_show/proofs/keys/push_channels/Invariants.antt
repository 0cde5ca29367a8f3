use Rattle.std.proofs.Common.{◌≡◌, ◌++◌, take}
use Rattle.std.specs.List.{flat_map}
use Rattle.app_show.specs.Keys.{channel_keys}
use Rattle.app_show.proofs.keys.push_channels.Given as goal

abbrev pub invariant-loop-place : goal.invariant-loop-place
invariant-loop-place l = l.keys.items ≡ l.fn.keys.items ++ flat_map channel_keys (take l.place l.numbers)
