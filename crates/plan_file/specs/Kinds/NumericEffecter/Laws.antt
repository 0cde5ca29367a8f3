-- A table holds one step that sets a numeric effecter, at most.
use Rattle.std.proofs.Common.{◌≡◌, ℕ, List, Option, ap}
use Rattle.toml.specs.Data.{Members}
use Rattle.record_base.specs.declared.op.Op.TheVariants as op
use Rattle.record_base.specs.declared.numeric_effecter.NumericBytes.{NumericBytes}
use Rattle.record_base.specs.declared.numeric_effecter.NumericBytes.TheVariants as bytes
use Rattle.record_base.specs.declared.numeric_effecter.SetNumericEffecter.{SetNumericEffecter}
use Rattle.text_fields.specs.declared.field.Field.TheVariants as field
use Rattle.text_fields.specs.Numeric.{sized_bytes, AreValueBytes}
use Rattle.plan_file.specs.Kinds.NumericEffecter.{HoldsNumericEffecter, HoldsOp}
use Rattle.text_fields.proofs.Unique.{one_found, one_number}
use Rattle.plan_file.specs.StepKind.{IsOne}

one_value : (a b : NumericBytes) (found : Option (List ℕ)) → AreValueBytes a found → AreValueBytes b found → a ≡ b
one_value (bytes.One a) (bytes.One b) found p q = let same = one_found found _ _ p q in cc same
one_value (bytes.One a) (bytes.Two b c) found p q = let same = one_found found _ _ p q in cc same
one_value (bytes.One a) (bytes.Four b c d e) found p q = let same = one_found found _ _ p q in cc same
one_value (bytes.Two a b) (bytes.One c) found p q = let same = one_found found _ _ p q in cc same
one_value (bytes.Two a b) (bytes.Two c d) found p q = let same = one_found found _ _ p q in cc same
one_value (bytes.Two a b) (bytes.Four c d e f) found p q = let same = one_found found _ _ p q in cc same
one_value (bytes.Four a b c d) (bytes.One e) found p q = let same = one_found found _ _ p q in cc same
one_value (bytes.Four a b c d) (bytes.Two e f) found p q = let same = one_found found _ _ p q in cc same
one_value (bytes.Four a b c d) (bytes.Four e f g h) found p q = let same = one_found found _ _ p q in cc same
one_value bytes.Other b found p q = absurd p
one_value (bytes.One a) bytes.Other found p q = absurd q
one_value (bytes.Two a b) bytes.Other found p q = absurd q
one_value (bytes.Four a b c d) bytes.Other found p q = absurd q

one : (tree : Members) (a b : SetNumericEffecter) → HoldsNumericEffecter tree a → HoldsNumericEffecter tree b → a ≡ b
one tree a b p q =
    let effecter = one_number field.Effecter tree a.effecter b.effecter p.effecter q.effecter in
    let size = one_number field.Size tree a.size b.size p.size q.size in
    let value = one_value a.value b.value (sized_bytes field.Value tree) p.value q.value in
    λ i. record { effecter = effecter i; size = size i; value = value i }

-- the operation that such a step holds is one
pub only : IsOne HoldsOp
only tree = elim [ op.NumericEffecter a ↦ elim [ op.NumericEffecter b ↦ λ p q. ap op.NumericEffecter (one tree a b p q) | _ ↦ λ p q. absurd q ] | _ ↦ λ b p. absurd p ]
