-- A BIOS attribute begins with a value that it can have.
use Rattle.std.proofs.Common.{◌≡◌, ℕ, length, Option, refl, sym, subst, true, ◌&&◌, nat_le}
use Rattle.std.specs.Option.{IsSomeAnd}
use Rattle.record_base.specs.declared.attribute.Attribute.{Attribute}
use Rattle.record_base.specs.declared.attribute.AttributeKind.{AttributeKind}
use Rattle.record_base.specs.declared.attribute.AttributeKind.TheVariants.{Enumeration, Text, Integer}
use Rattle.record_base.specs.declared.attribute_value.AttributeValue.{AttributeValue}
use Rattle.record_base.specs.AttributeSizes.{least_value, most_value}
use Rattle.record_base.specs.AttributeValue.{type_of_value, value_bytes, value_in, HasEightBytes}
use Rattle.record_base.specs.AttributeRange.{type_of, AllowsValue, IsValue}
use Rattle.record_base.specs.AttributeRangeLaws.{value_back, value_length, length_tested}
use Rattle.record_base.specs.Attribute.{range_of, current_of, attribute_value}

current_allowed : (kind : AttributeKind) → AllowsValue (range_of kind) (current_of kind)
current_allowed (Enumeration e) = e.current_valid
current_allowed (Text t) = t.current_valid
current_allowed (Integer i) = i.current_valid

current_small : (kind : AttributeKind) → HasEightBytes (current_of kind)
current_small (Enumeration e) = tt
current_small (Text t) = tt
current_small (Integer i) = i.current_fits

same_type : (kind : AttributeKind) → type_of_value (current_of kind) ≡ type_of (range_of kind)
same_type (Enumeration e) = refl
same_type (Text t) = refl
same_type (Integer i) = refl

pub begins_valid : (attribute : Attribute) → IsValue (range_of attribute.kind) (attribute_value attribute)
begins_valid attribute =
    let kind : AttributeKind = attribute.kind in
    subst (λ (code : ℕ). IsSomeAnd (value_in code (value_bytes (current_of kind))) (AllowsValue (range_of kind))) (same_type kind)
    (subst (λ (o : Option AttributeValue). IsSomeAnd o (AllowsValue (range_of kind))) (sym (value_back (current_of kind) (current_small kind))) (current_allowed kind))

-- it has a length of the kind
pub begins_long : (attribute : Attribute) → (nat_le least_value (length (attribute_value attribute)) && nat_le (length (attribute_value attribute)) most_value) ≡ true
begins_long attribute = length_tested _ (value_length (range_of attribute.kind) (attribute_value attribute) (begins_valid attribute))
