use Rattle.std.proofs.Common.{◌≡◌, map}
use Rattle.std.specs.List.{range_with_len}
use Rattle.app_show.specs.Keys.{access_key}
use Rattle.app_show.proofs.keys.later_access_keys.Given as goal

abbrev pub invariant-loop-before : goal.invariant-loop-before
invariant-loop-before l = l.keys.items ≡ map (access_key l.channel) (range_with_len 2 l.before)
