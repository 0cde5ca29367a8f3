use Rattle.std.proofs.Common.{◌≡◌, ◌<◌, ℕ, length, slice_index}
use Rattle.sensor_recs.specs.Thresholds.{chosen}
use Rattle.sensor_recs.proofs.thresholds.choose.Given as goal

abbrev pub invariant-loop-place : goal.invariant-loop-place
invariant-loop-place l = record {
  six : length l.bytes ≡ 6;
  so_far : (k : ℕ) → k < l.place → slice_index l.bytes k ≡ chosen l.mask l.first l.second k;
}
