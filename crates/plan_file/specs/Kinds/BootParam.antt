-- What a step that sets a boot parameter holds.
pub mod Laws
pub mod Kind
use Rattle.std.specs.Prelude.{◌≡◌, ℕ, List, [], length, Option, Some, None}
use Rattle.toml.specs.Data.{Data, Members}
use Rattle.record_base.specs.declared.op.Op.{Op}
use Rattle.record_base.specs.declared.op.Op.TheVariants as op
use Rattle.record_base.specs.declared.boot_param.BootChange.{BootChange}
use Rattle.record_base.specs.declared.boot_param.SetBootParam.{SetBootParam}
use Rattle.record_base.specs.BootParam.{selector, parameter_of, change_bytes}
use Rattle.text_fields.specs.declared.field.Field.TheVariants as field
use Rattle.text_fields.specs.Trees.{in_field, bytes_in, HasNumber, HasFlag}

-- what a step gives are these bytes: none where it gives nothing
abbrev pub IsGivenData : Option Data → List ℕ → Type 0
IsGivenData None bytes = bytes ≡ []
IsGivenData (Some d) bytes = bytes_in (length bytes) d ≡ Some bytes

-- the step says what becomes of a boot parameter's data
pub record HoldsBootChange (tree : Members) (change : BootChange) : Type 0 where
  pub named : HasNumber field.Param tree (selector (parameter_of change))
  pub given : IsGivenData (in_field field.BootData tree) (change_bytes change)

-- the step holds a change of a boot parameter
pub record HoldsBootParam (tree : Members) (set : SetBootParam) : Type 0 where
  pub invalid : HasFlag field.Invalid tree set.invalid
  pub change : HoldsBootChange tree set.change

-- the operation is of this kind, and the step holds it
abbrev pub HoldsOp : Members → Op → Type 0
HoldsOp tree (op.BootParam set) = HoldsBootParam tree set
HoldsOp tree other = ⊥
