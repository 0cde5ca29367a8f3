-- A table holds one step that sets thresholds, at most.
use Rattle.std.proofs.Common.{◌≡◌, ◌∙◌, ℕ, List, length, sym, ap}
use Rattle.std.proofs.Props.{props}
use Rattle.toml.specs.Data.{Members}
use Rattle.record_base.specs.declared.op.Op.TheVariants as op
use Rattle.record_base.specs.declared.thresholds.SetThresholds.{SetThresholds}
use Rattle.text_fields.specs.declared.field.Field.TheVariants as field
use Rattle.plan_file.specs.Kinds.Thresholds.{HoldsThresholds, is_given, HoldsOp}
use Rattle.text_fields.proofs.Unique.{same_made, one_number, one_mask}
use Rattle.plan_file.specs.StepKind.{IsOne}

abbrev thresholds_at : (s : ℕ × (ℕ × List ℕ)) → length s.1.1 ≡ 6 → SetThresholds
thresholds_at s six = record { sensor = s.0; mask = s.1.0; values = s.1.1; six = six }

one : (tree : Members) (a b : SetThresholds) → HoldsThresholds tree a → HoldsThresholds tree b → a ≡ b
one tree a b p q =
    let sensor = one_number field.Sensor tree a.sensor b.sensor p.sensor q.sensor in
    let mask = one_mask a.mask b.mask (is_given tree) p.mask q.mask in
    let values = p.values ∙ sym q.values in
    same_made thresholds_at (λ s. hlevel props) (a.sensor, (a.mask, a.values)) (b.sensor, (b.mask, b.values)) a.six b.six (λ i. (sensor i, (mask i, values i)))

-- the operation that such a step holds is one
pub only : IsOne HoldsOp
only tree = elim [ op.Thresholds a ↦ elim [ op.Thresholds b ↦ λ p q. ap op.Thresholds (one tree a b p q) | _ ↦ λ p q. absurd q ] | _ ↦ λ b p. absurd p ]
