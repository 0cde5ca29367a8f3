use Rattle.record_base.specs.AttributeRangeLaws.{true_allows, allows_true}
use Rattle.bios_attr.proofs.laws.allows_is_the_rule.Goals as goal

pub returns : goal.returns
returns c = λ r v. (true_allows r v, allows_true r v)
