use Rattle.std.proofs.Common.{◌≡◌, ℕ, ◌<◌, ◌==◌, ◌||◌, true, slice_index}
use Rattle.record_base.specs.Sensor.Thresholds.{is_there}
use Rattle.record_base.proofs.threshold_masks.ThresholdMasks.is_clear.Given as goal

abbrev pub invariant-loop-place : goal.invariant-loop-place
invariant-loop-place l = (k : ℕ) → k < l.place → (is_there l.self k || (slice_index l.value k == 0)) ≡ true
