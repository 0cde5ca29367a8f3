use Rattle.std.proofs.Common.{slice_index}
use Rattle.record_base.specs.Sensor.Thresholds.{is_there, place_of}
use Rattle.record_base.proofs.Orders.{IsOrderedTo}
use Rattle.record_base.proofs.threshold_masks.ThresholdMasks.is_in_order.Given as goal

abbrev pub invariant-loop-place : goal.invariant-loop-place
invariant-loop-place l = IsOrderedTo (λ rank. is_there l.self (place_of rank)) (λ rank. slice_index l.value (place_of rank)) l.place-index l.highest
