use Rattle.std.proofs.Common.{sym, ◌∙◌, arith}
use Rattle.record_base.specs.ThresholdLaws.{in_order_true, true_in_order}
use Rattle.record_base.specs.MaskLaws.{is_false}
use Rattle.record_base.proofs.Orders.{IsOrderedTo-there, IsOrderedTo-absent, no_drop}
use Rattle.record_base.proofs.threshold_masks.ThresholdMasks.is_in_order.Goals as goal
use Rattle.record_base.proofs.threshold_masks.ThresholdMasks.is_in_order.Goals.{then-is_there+else-value-place, else-is_there}

pub loop-place-preserved : goal.loop-place-preserved
loop-place-preserved c =
    elim c.if-is_there.branch [
      | then-is_there+else-value-place w ↦ rw w.highest-is (IsOrderedTo-there _ _ _ _ c.loop-place.invariant (sym c.is_there.ensures ∙ w.if-is_there.true) (omega arith))
      | else-is_there w ↦ rw w.highest-is (IsOrderedTo-absent _ _ _ _ c.loop-place.invariant (sym c.is_there.ensures ∙ w.if-is_there.false))
    ]

pub returns : goal.returns
returns c = sym (true_in_order c.args.self.now c.args.value.now (λ low high lt below l h. c.loop-place.invariant.in_order low high lt (omega arith) l h))

pub returns-then-value-place : goal.returns-then-value-place
returns-then-value-place c =
    is_false _ (λ ordered. no_drop _ _ _ _ c.loop-place.invariant (sym c.is_there.ensures ∙ c.if-is_there.true) c.if-value-place.true
    (λ low lt there. in_order_true c.args.self.now c.args.value.now ordered low c.loop-place.place-index lt (omega arith) there (sym c.is_there.ensures ∙ c.if-is_there.true)))
