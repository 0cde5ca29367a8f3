use Rattle.std.proofs.Common.{length, sym, ◌∙◌, ap}
use Rattle.record_base.specs.declared.attribute_range.AttributeRange.TheVariants as range
use Rattle.record_base.specs.AttributeRangeLaws.{same_possible}
use Rattle.record_base.specs.Attribute.{range_of}
use Rattle.record_base.proofs.attribute.AttributeKind.range.Goals as goal

pub returns-in-Enumeration : goal.returns-in-Enumeration
returns-in-Enumeration c = ap range.Enumeration (same_possible _ _ _ _ (ap length c.as_slice.ensures)) ∙ sym (ap range_of c.in-Enumeration.is)
