use Rattle.std.proofs.Common.{◌≡◌, true, false, sym, ◌∙◌}
use Rattle.record_base.specs.ThresholdLaws.{tests_pass, value_is_clear, true_in_order}
use Rattle.record_base.proofs.threshold_masks.ThresholdMasks.is_value.Goals as goal

pub returns-then-is_clear : goal.returns-then-is_clear
returns-then-is_clear c = (
  λ h. tests_pass _ _ c.requires (sym c.is_clear.ensures ∙ c.if-is_clear.true) (sym c.is_in_order.ensures ∙ h),
  λ v. c.is_in_order.ensures ∙ true_in_order _ _ v.in_order,
)

pub returns-else-is_clear : goal.returns-else-is_clear
returns-else-is_clear c = (
  λ h. absurd (let f : c.is_clear.result ≡ false = c.if-is_clear.false in let t : c.is_clear.result ≡ true = h in cc),
  λ v. c.is_clear.ensures ∙ value_is_clear _ _ v,
)
