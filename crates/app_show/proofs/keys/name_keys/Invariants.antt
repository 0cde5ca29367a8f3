use Rattle.std.proofs.Common.{◌≡◌, map}
use Rattle.std.specs.List.{range_with_len}
use Rattle.app_show.specs.Keys.{user_key}
use Rattle.app_show.proofs.keys.name_keys.Given as goal

abbrev pub invariant-loop-before : goal.invariant-loop-before
invariant-loop-before l = l.keys.items ≡ map user_key (range_with_len 1 l.before)
