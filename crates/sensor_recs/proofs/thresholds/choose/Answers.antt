use Rattle.std.proofs.Common.{arith}
use Rattle.sensor_recs.specs.ThresholdsLaws.{choose_only}
use Rattle.sensor_recs.proofs.thresholds.choose.Goals as goal

pub returns : goal.returns
returns c = choose_only _ _ _ c.loop-place.bytes (omega arith) (λ k lt. c.loop-place.invariant.so_far k (omega arith))
