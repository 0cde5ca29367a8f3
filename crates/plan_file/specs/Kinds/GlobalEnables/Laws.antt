-- A table holds one step that sets the global enables, at most.
use Rattle.std.proofs.Common.{◌≡◌, ap}
use Rattle.toml.specs.Data.{Members}
use Rattle.record_base.specs.declared.op.Op.TheVariants as op
use Rattle.record_base.specs.declared.global_enables.SetGlobalEnables.{SetGlobalEnables}
use Rattle.text_fields.specs.declared.field.Field.TheVariants as field
use Rattle.plan_file.specs.Kinds.GlobalEnables.{HoldsGlobalEnables, HoldsOp}
use Rattle.text_fields.proofs.Unique.{one_number}
use Rattle.plan_file.specs.StepKind.{IsOne}

one : (tree : Members) (a b : SetGlobalEnables) → HoldsGlobalEnables tree a → HoldsGlobalEnables tree b → a ≡ b
one tree a b p q = let byte = one_number field.Value tree a.byte b.byte p q in λ i. record { byte = byte i }

-- the operation that such a step holds is one
pub only : IsOne HoldsOp
only tree = elim [ op.GlobalEnables a ↦ elim [ op.GlobalEnables b ↦ λ p q. ap op.GlobalEnables (one tree a b p q) | _ ↦ λ p q. absurd q ] | _ ↦ λ b p. absurd p ]
