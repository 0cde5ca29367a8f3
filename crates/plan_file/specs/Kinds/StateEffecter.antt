-- What a step that sets states of a state effecter holds.
pub mod Laws
pub mod Kind
use Rattle.std.specs.Prelude.{◌≡◌, Some}
use Rattle.std.specs.List.{AllZip}
use Rattle.toml.specs.Data.{Data, Members}
use Rattle.record_base.specs.declared.op.Op.{Op}
use Rattle.record_base.specs.declared.op.Op.TheVariants as op
use Rattle.record_base.specs.declared.field_changes.FieldChange.{FieldChange}
use Rattle.record_base.specs.declared.state_effecter.SetStateEffecter.{SetStateEffecter}
use Rattle.text_fields.specs.declared.field.Field.TheVariants as field
use Rattle.text_fields.specs.Trees.{members_in, HasNumber}
use Rattle.text_fields.specs.States.{change_of}

-- the member of an array says what becomes of a field
abbrev pub IsChangeIn : Data → FieldChange → Type 0
IsChangeIn d change = change_of d ≡ Some change

-- the step holds a change of a state effecter's states: one for each field
pub record HoldsStateEffecter (tree : Members) (set : SetStateEffecter) : Type 0 where
  pub effecter : HasNumber field.Effecter tree set.effecter
  pub changes : AllZip IsChangeIn (members_in field.States tree) set.changes

-- the operation is of this kind, and the step holds it
abbrev pub HoldsOp : Members → Op → Type 0
HoldsOp tree (op.StateEffecter set) = HoldsStateEffecter tree set
HoldsOp tree other = ⊥
