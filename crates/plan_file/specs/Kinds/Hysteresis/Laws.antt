-- A table holds one step that sets hysteresis, at most.
use Rattle.std.proofs.Common.{◌≡◌, ap}
use Rattle.toml.specs.Data.{Members}
use Rattle.record_base.specs.declared.op.Op.TheVariants as op
use Rattle.record_base.specs.declared.hysteresis.SetHysteresis.{SetHysteresis}
use Rattle.text_fields.specs.declared.field.Field.TheVariants as field
use Rattle.plan_file.specs.Kinds.Hysteresis.{HoldsHysteresis, HoldsOp}
use Rattle.text_fields.proofs.Unique.{one_number}
use Rattle.plan_file.specs.StepKind.{IsOne}

one : (tree : Members) (a b : SetHysteresis) → HoldsHysteresis tree a → HoldsHysteresis tree b → a ≡ b
one tree a b p q =
    let sensor = one_number field.Sensor tree a.sensor b.sensor p.sensor q.sensor in
    let positive = one_number field.Positive tree a.positive b.positive p.positive q.positive in
    let negative = one_number field.Negative tree a.negative b.negative p.negative q.negative in
    λ i. record { sensor = sensor i; positive = positive i; negative = negative i }

-- the operation that such a step holds is one
pub only : IsOne HoldsOp
only tree = elim [ op.Hysteresis a ↦ elim [ op.Hysteresis b ↦ λ p q. ap op.Hysteresis (one tree a b p q) | _ ↦ λ p q. absurd q ] | _ ↦ λ b p. absurd p ]
