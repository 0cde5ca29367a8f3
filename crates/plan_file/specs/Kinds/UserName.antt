-- What a step that sets the name of a user holds.
pub mod Laws
pub mod Kind
use Rattle.std.specs.Prelude.{◌≡◌, Some, option_and_then}
use Rattle.toml.specs.Data.{Members}
use Rattle.record_base.specs.declared.op.Op.{Op}
use Rattle.record_base.specs.declared.op.Op.TheVariants as op
use Rattle.record_base.specs.declared.user.SetUserName.{SetUserName}
use Rattle.text_fields.specs.declared.field.Field.TheVariants as field
use Rattle.text_fields.specs.Trees.{in_field, HasNumber}
use Rattle.text_fields.specs.Users.{name_of}

-- the step holds a change of a user's name
pub record HoldsUserName (tree : Members) (set : SetUserName) : Type 0 where
  pub user : HasNumber field.User tree set.user
  pub name : option_and_then name_of (in_field field.NameText tree) ≡ Some set.name

-- the operation is of this kind, and the step holds it
abbrev pub HoldsOp : Members → Op → Type 0
HoldsOp tree (op.UserName set) = HoldsUserName tree set
HoldsOp tree other = ⊥
