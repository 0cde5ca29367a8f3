-- A table holds one step that sets what a user may do, at most.
use Rattle.std.proofs.Common.{◌≡◌, ◌%◌, ◌∙◌, sym, arith, ap}
use Rattle.toml.specs.Data.{Members}
use Rattle.record_base.specs.declared.op.Op.TheVariants as op
use Rattle.record_base.specs.declared.user.SetUserAccess.{SetUserAccess}
use Rattle.text_fields.specs.declared.field.Field.TheVariants as field
use Rattle.plan_file.specs.Kinds.UserAccess.{HoldsUserAccess, HoldsOp}
use Rattle.text_fields.proofs.Unique.{one_number}
use Rattle.plan_file.specs.StepKind.{IsOne}

one : (tree : Members) (a b : SetUserAccess) → HoldsUserAccess tree a → HoldsUserAccess tree b → a ≡ b
one tree a b p q =
    let low = one_number field.Channel tree (a.first % 16) (b.first % 16) p.channel q.channel in
    let high = p.bits ∙ sym q.bits in
    let first_byte : a.first ≡ b.first = omega (arith, low, high) in
    let user = one_number field.User tree a.user b.user p.user q.user in
    let limit = one_number field.Limit tree a.limit b.limit p.limit q.limit in
    let session_limit = p.session_limit ∙ sym q.session_limit in
    λ i. record { first = first_byte i; user = user i; limit = limit i; session_limit = session_limit i }

-- the operation that such a step holds is one
pub only : IsOne HoldsOp
only tree = elim [ op.UserAccess a ↦ elim [ op.UserAccess b ↦ λ p q. ap op.UserAccess (one tree a b p q) | _ ↦ λ p q. absurd q ] | _ ↦ λ b p. absurd p ]
