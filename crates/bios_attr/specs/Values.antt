-- The entries of the value table (DSP0247).
use Rattle.std.specs.Prelude.{ℕ, ◌≤◌, List, ◌∷◌, ◌++◌, length}
use Rattle.std.specs.List.{flat_map}
use Rattle.record_base.specs.declared.attribute.Attribute.{Attribute}
use Rattle.bios_attr.specs.declared.current_values.EntryHead.{EntryHead}
use Rattle.record_base.specs.AttributeValue.{two_bytes}
use Rattle.record_base.specs.AttributeSizes.{most_value}
use Rattle.bios_attr.specs.ValueEntry.{shown_type, IsByteList}
use Rattle.record_base.specs.Attribute.{type_of_kind}

-- what an attribute's entry has before the value: its handle, and its type
abbrev pub head_of : Attribute → EntryHead
head_of a = record { attribute = a.handle; code = shown_type a.read_only (type_of_kind a.kind) }

-- the entries of the values that attributes have
abbrev pub value_entries : (ℕ → List ℕ) → List EntryHead → List ℕ
value_entries values heads = flat_map (λ head. two_bytes head.attribute ++ head.code ∷ values head.attribute) heads

-- they are bytes, and no more than an attribute's value has
pub record IsShown (value : List ℕ) : Type 0 where
  pub small : IsByteList value
  pub short : length value ≤ most_value
