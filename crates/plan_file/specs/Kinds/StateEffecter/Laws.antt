-- A table holds one step that sets a state effecter, at most.
use Rattle.std.proofs.Common.{◌≡◌, ◌≤◌, ℕ, List, length, ap}
use Rattle.std.proofs.Props.{props}
use Rattle.toml.specs.Data.{Members}
use Rattle.record_base.specs.declared.op.Op.TheVariants as op
use Rattle.record_base.specs.declared.field_changes.FieldChange.{FieldChange}
use Rattle.record_base.specs.declared.state_effecter.SetStateEffecter.{SetStateEffecter}
use Rattle.text_fields.specs.declared.field.Field.TheVariants as field
use Rattle.text_fields.specs.Trees.{members_in}
use Rattle.text_fields.specs.States.{change_of}
use Rattle.plan_file.specs.Kinds.StateEffecter.{HoldsStateEffecter, HoldsOp}
use Rattle.text_fields.proofs.Unique.{same_made, one_found, one_list, one_number}
use Rattle.plan_file.specs.StepKind.{IsOne}

abbrev states_at : (s : ℕ × List FieldChange) → length s.1 ≤ 9 → SetStateEffecter
states_at s few = record { effecter = s.0; changes = s.1; few = few }

one : (tree : Members) (a b : SetStateEffecter) → HoldsStateEffecter tree a → HoldsStateEffecter tree b → a ≡ b
one tree a b p q =
    let effecter = one_number field.Effecter tree a.effecter b.effecter p.effecter q.effecter in
    let changes = one_list (λ d. one_found (change_of d)) (members_in field.States tree) a.changes b.changes p.changes q.changes in
    same_made states_at (λ s. hlevel props) (a.effecter, a.changes) (b.effecter, b.changes) a.few b.few (λ i. (effecter i, changes i))

-- the operation that such a step holds is one
pub only : IsOne HoldsOp
only tree = elim [ op.StateEffecter a ↦ elim [ op.StateEffecter b ↦ λ p q. ap op.StateEffecter (one tree a b p q) | _ ↦ λ p q. absurd q ] | _ ↦ λ b p. absurd p ]
