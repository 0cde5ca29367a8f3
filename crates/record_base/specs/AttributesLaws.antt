-- The BIOS attributes of a board, in its list.
use Rattle.std.specs.Prelude.{List}
use Rattle.record_base.specs.declared.attribute.Attribute.{Attribute}
use Rattle.record_base.specs.InOrderLaws.{AreNumbered-prop}
use Rattle.record_base.specs.Attributes.{AreInPlace}

pub AreInPlace-prop : (attributes : List Attribute) → IsProp (AreInPlace attributes)
AreInPlace-prop attributes = AreNumbered-prop (λ (attribute : Attribute). attribute.handle) 0 attributes
