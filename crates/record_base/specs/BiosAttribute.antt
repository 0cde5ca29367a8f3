-- Operations on the values of BIOS attributes.
use Rattle.std.specs.Prelude.{ℕ, List, take}
use Rattle.record_base.specs.declared.bios_attribute.SetBiosAttribute.{SetBiosAttribute}
use Rattle.record_base.specs.AttributeSizes.{most_sent}
use Rattle.record_base.specs.BiosAttributeLaws.{few_sent}

-- the operation that sets an attribute's value to the first of these bytes, as many as a Set has at most, in one request or in parts
abbrev pub setting : ℕ → ℕ → List ℕ → SetBiosAttribute
setting attribute code bytes = record { attribute = attribute; attribute_type = code; value = take most_sent bytes; fits = few_sent bytes }
