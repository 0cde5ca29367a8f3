-- The BIOS attributes of a board (DSP0247).
use Rattle.std.specs.Prelude.{ℕ, List, length}
use Rattle.record_base.specs.declared.attribute.Attribute.{Attribute}
use Rattle.record_base.specs.declared.attribute.AttributeKind.{AttributeKind}
use Rattle.record_base.specs.declared.attribute.AttributeKind.TheVariants as kind
use Rattle.record_base.specs.declared.attribute_range.AttributeRange.{AttributeRange}
use Rattle.record_base.specs.declared.attribute_range.AttributeRange.TheVariants as range
use Rattle.record_base.specs.declared.attribute_value.AttributeValue.{AttributeValue}
use Rattle.record_base.specs.declared.attribute_value.AttributeValue.TheVariants as value
use Rattle.record_base.specs.AttributeValue.{enumeration_type, string_type, integer_type, value_bytes}

-- the type of such an attribute
abbrev pub type_of_kind : AttributeKind → ℕ
type_of_kind (kind.Enumeration e) = enumeration_type
type_of_kind (kind.Text t) = string_type
type_of_kind (kind.Integer i) = integer_type

-- which values it can have
abbrev pub range_of : AttributeKind → AttributeRange
range_of (kind.Enumeration e) = range.Enumeration (record { count = length e.values; few = e.few })
range_of (kind.Text t) = range.Text t.lengths
range_of (kind.Integer i) = range.Integer i.steps

-- the value that it begins with, and the bytes of this in a value entry
abbrev pub current_of : AttributeKind → AttributeValue
current_of (kind.Enumeration e) = value.Indexes e.current
current_of (kind.Text t) = value.Text t.current
current_of (kind.Integer i) = value.Number i.current

abbrev pub attribute_value : Attribute → List ℕ
attribute_value attribute = value_bytes (current_of attribute.kind)
