use Rattle.std.proofs.Common.{◌∙◌}
use Rattle.record_base.specs.BiosAttributeLaws.{same_setting}
use Rattle.record_base.proofs.bios_attribute.SetBiosAttribute.of.Goals as goal

pub returns : goal.returns
returns c = same_setting _ _ _ _ _ _ (c.new.ensures ∙ c.first.ensures.value)
