-- The BIOS attributes of a board file: what an item `[[attribute]]` holds.
use Rattle.std.specs.Prelude.{◌≡◌, ℕ, true, List, Some, codes}
use Rattle.std.specs.List.{AllZip}
use Rattle.toml.specs.Data.{Data, Members}
use Rattle.record_base.specs.declared.attribute.Attribute.{Attribute}
use Rattle.record_base.specs.declared.attribute.AttributeKind.{AttributeKind}
use Rattle.record_base.specs.declared.attribute.AttributeKind.TheVariants as kind
use Rattle.record_base.specs.declared.attribute.EnumerationAttribute.{EnumerationAttribute}
use Rattle.record_base.specs.declared.attribute.StringAttribute.{StringAttribute}
use Rattle.record_base.specs.declared.attribute.IntegerAttribute.{IntegerAttribute}
use Rattle.text_fields.specs.declared.field.Field.TheVariants as field
use Rattle.text_fields.specs.Trees.{IsNaturalIn, flag_in, number_in, members_in, table_of}
use Rattle.text_fields.specs.Attributes.{text_of, text_in, string_in}
use Rattle.text_fields.specs.Ranges.{has_text}

-- the member of an array is this text
abbrev pub IsTextIn : Data → List ℕ → Type 0
IsTextIn d text = text_of d ≡ Some text

-- the item holds an enumeration
pub record HoldsEnumeration (tree : Members) (attribute : EnumerationAttribute) : Type 0 where
  pub values : AllZip IsTextIn (members_in field.Values tree) attribute.values
  pub default : AllZip IsNaturalIn (members_in field.Default tree) attribute.default
  pub current : AllZip IsNaturalIn (members_in field.Current tree) attribute.current

-- the item holds a string
pub record HoldsString (tree : Members) (attribute : StringAttribute) : Type 0 where
  pub string_type : number_in field.StringType tree ≡ Some attribute.string_type
  pub least : number_in field.Least tree ≡ Some attribute.lengths.least
  pub most : number_in field.Most tree ≡ Some attribute.lengths.most
  pub default : string_in field.Default tree ≡ Some attribute.default
  pub current : string_in field.Current tree ≡ Some attribute.current

-- the item holds an integer
pub record HoldsInteger (tree : Members) (attribute : IntegerAttribute) : Type 0 where
  pub lower : number_in field.Lower tree ≡ Some attribute.steps.lower
  pub upper : number_in field.Upper tree ≡ Some attribute.steps.upper
  pub increment : number_in field.Increment tree ≡ Some attribute.steps.increment
  pub default : number_in field.Default tree ≡ Some attribute.default
  pub current : number_in field.Current tree ≡ Some attribute.current

-- the item holds an attribute of the kind that it names
abbrev pub HoldsKind : Members → AttributeKind → Type 0
HoldsKind tree (kind.Enumeration attribute) = (has_text field.Kind (codes "enumeration") tree ≡ true) × HoldsEnumeration tree attribute
HoldsKind tree (kind.Text attribute) = (has_text field.Kind (codes "string") tree ≡ true) × HoldsString tree attribute
HoldsKind tree (kind.Integer attribute) = (has_text field.Kind (codes "integer") tree ≡ true) × HoldsInteger tree attribute

-- the item holds an attribute
pub record HoldsAttribute (tree : Members) (attribute : Attribute) : Type 0 where
  pub name : text_in field.NameText tree ≡ Some attribute.name
  pub kind : HoldsKind tree attribute.kind
  pub read_only : flag_in field.ReadOnly tree ≡ Some attribute.read_only

-- the member of an array holds an attribute
abbrev pub IsAttributeIn : Data → Attribute → Type 0
IsAttributeIn d attribute = HoldsAttribute (table_of d) attribute
