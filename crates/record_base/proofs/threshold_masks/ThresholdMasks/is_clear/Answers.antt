use Rattle.std.proofs.Common.{sym, arith, IsFalse}
use Rattle.record_base.specs.Sensor.Thresholds.{is_there}
use Rattle.record_base.specs.MaskLaws.{is_false}
use Rattle.record_base.specs.ThresholdLaws.{clear_true, true_clear}
use Rattle.record_base.proofs.threshold_masks.ThresholdMasks.is_clear.Goals as goal

pub returns-then-value-place-ne0 : goal.returns-then-value-place-ne0
returns-then-value-place-ne0 c =
    is_false _ (λ clear.
    let gone : IsFalse (is_there c.args.self.now c.loop-place.place) = cc in
    c.if-value-place-ne0.true (clear_true _ _ clear c.loop-place.place (omega arith) gone))

pub returns : goal.returns
returns c = sym (true_clear _ _ (λ k lt. c.loop-place.invariant k (omega arith)))
