use Rattle.std.proofs.Common.{◌≡◌, length}
use Rattle.app_change.specs.Outlooks.{EachTold}
use Rattle.app_change.proofs.outlooks.foresee_all.Given as goal

-- the steps before have their outlooks
abbrev pub invariant-loop-place : goal.invariant-loop-place
invariant-loop-place l = (length l.outlooks.items ≡ l.place) × EachTold l.fn.steps l.fn.found l.outlooks.items
