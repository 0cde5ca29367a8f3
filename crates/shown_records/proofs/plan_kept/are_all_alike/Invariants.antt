use Rattle.std.proofs.Common.{◌≡◌, ◌<◌, ℕ, Some}
use Rattle.std.specs.Prelude.{slice_get}
use Rattle.record_base.specs.declared.op.Op.{Op}
use Rattle.shown_records.specs.KeptText.{IsAlike}
use Rattle.shown_records.proofs.plan_kept.are_all_alike.Given as goal

-- those before this place are alike
abbrev pub invariant-loop-place : goal.invariant-loop-place
invariant-loop-place l = (at : ℕ) (one other : Op) → at < l.place → slice_get l.first at ≡ Some one → slice_get l.second at ≡ Some other → IsAlike one other
