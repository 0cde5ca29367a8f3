-- A table holds one step that sets a user's name, at most.
use Rattle.std.proofs.Common.{◌≡◌, ℕ, List, length, option_and_then, ap}
use Rattle.std.proofs.Props.{props}
use Rattle.toml.specs.Data.{Members}
use Rattle.record_base.specs.declared.op.Op.TheVariants as op
use Rattle.record_base.specs.declared.user.SetUserName.{SetUserName}
use Rattle.record_base.specs.UserSizes.{user_name_size}
use Rattle.text_fields.specs.declared.field.Field.TheVariants as field
use Rattle.text_fields.specs.Trees.{in_field}
use Rattle.text_fields.specs.Users.{name_of}
use Rattle.plan_file.specs.Kinds.UserName.{HoldsUserName, HoldsOp}
use Rattle.text_fields.proofs.Unique.{same_made, one_found, one_number}
use Rattle.plan_file.specs.StepKind.{IsOne}

abbrev name_at : (s : ℕ × List ℕ) → length s.1 ≡ user_name_size → SetUserName
name_at s sized = record { user = s.0; name = s.1; sized = sized }

one : (tree : Members) (a b : SetUserName) → HoldsUserName tree a → HoldsUserName tree b → a ≡ b
one tree a b p q =
    let user = one_number field.User tree a.user b.user p.user q.user in
    let name = one_found (option_and_then name_of (in_field field.NameText tree)) a.name b.name p.name q.name in
    same_made name_at (λ s. hlevel props) (a.user, a.name) (b.user, b.name) a.sized b.sized (λ i. (user i, name i))

-- the operation that such a step holds is one
pub only : IsOne HoldsOp
only tree = elim [ op.UserName a ↦ elim [ op.UserName b ↦ λ p q. ap op.UserName (one tree a b p q) | _ ↦ λ p q. absurd q ] | _ ↦ λ b p. absurd p ]
