-- What a step that sets what a user may do on a channel holds.
pub mod Laws
pub mod Kind
use Rattle.std.specs.Prelude.{◌≡◌, ℕ, ◌+◌, ◌*◌, ◌/◌, ◌%◌, Bool, if◌then◌else◌, Option, Some, None, is_some}
use Rattle.toml.specs.Data.{Members}
use Rattle.record_base.specs.declared.op.Op.{Op}
use Rattle.record_base.specs.declared.op.Op.TheVariants as op
use Rattle.record_base.specs.declared.user.SetUserAccess.{SetUserAccess}
use Rattle.text_fields.specs.declared.field.Field.TheVariants as field
use Rattle.text_fields.specs.Trees.{in_field, flag_in, HasNumber}

-- 1 for what is true
abbrev pub bit_of : Option Bool → ℕ
bit_of (Some b) = if b then 1 else 0
bit_of None = 0

-- bits 7:4 of the first byte of Set User Access (IPMI 2.0): that bits 6:4 change, where the step has them; callback, link and messages
abbrev pub access_bits : Members → ℕ
access_bits tree =
    (if is_some (in_field field.Callback tree) then 8 else 0)
    + (4 * bit_of (flag_in field.Callback tree) + (2 * bit_of (flag_in field.Link tree) + bit_of (flag_in field.Messaging tree)))

-- the step holds a change of what a user may do on a channel
pub record HoldsUserAccess (tree : Members) (set : SetUserAccess) : Type 0 where
  pub channel : HasNumber field.Channel tree (set.first % 16)
  pub bits : set.first / 16 ≡ access_bits tree
  pub user : HasNumber field.User tree set.user
  pub limit : HasNumber field.Limit tree set.limit
  pub session_limit : set.session_limit ≡ None

-- the operation is of this kind, and the step holds it
abbrev pub HoldsOp : Members → Op → Type 0
HoldsOp tree (op.UserAccess set) = HoldsUserAccess tree set
HoldsOp tree other = ⊥
