use Rattle.std.proofs.Common.{◌≡◌, ◌≤◌, length, take}
use Rattle.app_change.specs.Kept.{kept_of}
use Rattle.app_change.proofs.keeping.kept_steps.Given as goal

-- those of the steps before that are kept, which are no more than these
abbrev pub invariant-loop-place : goal.invariant-loop-place
invariant-loop-place l = (l.kept ≡ kept_of (take l.place l.fn.steps) (take l.place l.fn.found)) × (length l.kept ≤ l.place)
