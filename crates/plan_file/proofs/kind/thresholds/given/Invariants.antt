use Rattle.std.proofs.Common.{◌≡◌, ℕ, ◌&&◌, nat_lt}
use Rattle.record_base.specs.Masks.{has}
use Rattle.toml.specs.View.{table_view}
use Rattle.plan_file.specs.Kinds.Thresholds.{is_given}
use Rattle.plan_file.proofs.kind.thresholds.given.Given as goal

abbrev pub invariant-loop-place : goal.invariant-loop-place
invariant-loop-place l = (place : ℕ) → has l.mask place ≡ (nat_lt place l.place && is_given (table_view l.step) place)
