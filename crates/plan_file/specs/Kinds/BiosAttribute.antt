-- What a step that sets the value of a BIOS attribute holds.
pub mod Laws
pub mod Kind
use Rattle.std.specs.Prelude.{◌≡◌, Some}
use Rattle.std.specs.List.{AllZip}
use Rattle.toml.specs.Data.{Members}
use Rattle.record_base.specs.declared.op.Op.{Op}
use Rattle.record_base.specs.declared.op.Op.TheVariants as op
use Rattle.record_base.specs.declared.attribute_value.AttributeValue.{AttributeValue}
use Rattle.record_base.specs.declared.attribute_value.AttributeValue.TheVariants as attribute
use Rattle.record_base.specs.AttributeValue.{type_of_value, value_bytes}
use Rattle.record_base.specs.declared.bios_attribute.SetBiosAttribute.{SetBiosAttribute}
use Rattle.text_fields.specs.declared.field.Field.TheVariants as field
use Rattle.text_fields.specs.Trees.{IsNaturalIn, members_in, HasNumber, LacksField}
use Rattle.text_fields.specs.Attributes.{string_in}

-- the step gives this value of an attribute, its indexes, its text or its number, and none besides
abbrev pub GivesValue : Members → AttributeValue → Type 0
GivesValue tree (attribute.Indexes indexes) = AllZip IsNaturalIn (members_in field.Indexes tree) indexes × (LacksField field.Text tree × LacksField field.Number tree)
GivesValue tree (attribute.Text text) = (string_in field.Text tree ≡ Some text) × (LacksField field.Indexes tree × LacksField field.Number tree)
GivesValue tree (attribute.Number n) = HasNumber field.Number tree n × (LacksField field.Indexes tree × LacksField field.Text tree)

-- the step holds a change of an attribute's value, to the one that it gives: the value's type, and its bytes
pub record HoldsBiosAttribute (tree : Members) (set : SetBiosAttribute) : Type 0 where
  pub handle : HasNumber field.Handle tree set.attribute
  pub value : AttributeValue
  pub given : GivesValue tree value
  pub of_type : set.attribute_type ≡ type_of_value value
  pub sent : set.value ≡ value_bytes value

-- the operation is of this kind, and the step holds it
abbrev pub HoldsOp : Members → Op → Type 0
HoldsOp tree (op.BiosAttribute set) = HoldsBiosAttribute tree set
HoldsOp tree other = ⊥
