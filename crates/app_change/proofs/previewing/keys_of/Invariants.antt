use Rattle.std.proofs.Common.{◌≡◌, take}
use Rattle.app_change.specs.Preview.{keys_of}
use Rattle.app_change.proofs.previewing.keys_of.Given as goal

-- the steps before have their records
abbrev pub invariant-loop-place : goal.invariant-loop-place
invariant-loop-place l = l.keys.items ≡ keys_of (take l.place l.fn.steps)
