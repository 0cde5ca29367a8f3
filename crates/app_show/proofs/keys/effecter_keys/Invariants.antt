use Rattle.std.proofs.Common.{◌≡◌, take}
use Rattle.std.specs.List.{flat_map}
use Rattle.app_show.specs.Keys.{ids_keys}
use Rattle.app_show.proofs.keys.effecter_keys.Given as goal

abbrev pub invariant-loop-place : goal.invariant-loop-place
invariant-loop-place l = l.keys.items ≡ flat_map ids_keys (take l.place l.effecters)
