use Rattle.std.proofs.Common.{◌≡◌, map, take}
use Rattle.record_kinds.specs.Limits.{key_of}
use Rattle.app_change.proofs.keep_look.keys_of.Given as goal

abbrev pub invariant-loop-place : goal.invariant-loop-place
invariant-loop-place l = l.keys.items ≡ map key_of (take l.place l.fn.steps)
