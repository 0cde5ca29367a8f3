-- The BIOS attributes of a board, in its list (DSP0247).
use Rattle.std.specs.Prelude.{List}
use Rattle.record_base.specs.declared.attribute.Attribute.{Attribute}
use Rattle.record_base.specs.InOrder.{AreNumbered}

-- the handle of each attribute is its place
abbrev pub AreInPlace : List Attribute → Type 0
AreInPlace attributes = AreNumbered (λ attribute. attribute.handle) 0 attributes
