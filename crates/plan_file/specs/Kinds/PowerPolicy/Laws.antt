-- A table holds one step that sets the power restore policy, at most.
use Rattle.std.proofs.Common.{◌≡◌, ap}
use Rattle.toml.specs.Data.{Members}
use Rattle.record_base.specs.declared.op.Op.TheVariants as op
use Rattle.record_base.specs.declared.power_policy.SetPowerPolicy.{SetPowerPolicy}
use Rattle.text_fields.specs.declared.field.Field.TheVariants as field
use Rattle.plan_file.specs.Kinds.PowerPolicy.{HoldsPowerPolicy, HoldsOp}
use Rattle.text_fields.proofs.Unique.{one_number}
use Rattle.plan_file.specs.StepKind.{IsOne}

one : (tree : Members) (a b : SetPowerPolicy) → HoldsPowerPolicy tree a → HoldsPowerPolicy tree b → a ≡ b
one tree a b p q = let policy = one_number field.Policy tree a.policy b.policy p q in λ i. record { policy = policy i }

-- the operation that such a step holds is one
pub only : IsOne HoldsOp
only tree = elim [ op.PowerPolicy a ↦ elim [ op.PowerPolicy b ↦ λ p q. ap op.PowerPolicy (one tree a b p q) | _ ↦ λ p q. absurd q ] | _ ↦ λ b p. absurd p ]
