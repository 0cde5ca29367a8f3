-- A table holds one step that enables or disables events, at most.
use Rattle.std.proofs.Common.{◌≡◌, ℕ, List, true, refl, ap, codes}
use Rattle.toml.specs.Data.{Members}
use Rattle.record_base.specs.declared.op.Op.TheVariants as op
use Rattle.record_base.specs.declared.event_enable.SetEventEnable.{SetEventEnable}
use Rattle.record_base.specs.declared.event_enable.EventChange.{EventChange}
use Rattle.record_base.specs.declared.event_enable.EventChange.TheVariants as change
use Rattle.record_base.specs.declared.event_enable.EventMasks.{EventMasks}
use Rattle.text_fields.specs.declared.field.Field.TheVariants as field
use Rattle.text_fields.specs.Trees.{flag_in, members_in}
use Rattle.text_fields.specs.Ranges.{has_text, is_listed}
use Rattle.plan_file.specs.Kinds.EventEnable.{HoldsEvents, HoldsChange, HoldsEventEnable, HoldsOp}
use Rattle.text_fields.proofs.Unique.{one_found, one_number, one_mask, one_word}
use Rattle.plan_file.specs.StepKind.{IsOne}

one_events : (tree : Members) (a b : EventMasks) → HoldsEvents tree a → HoldsEvents tree b → a ≡ b
one_events tree a b p q =
    let assertions = one_mask a.assertions b.assertions (is_listed (members_in field.Assert tree)) p.assertions q.assertions in
    let deassertions = one_mask a.deassertions b.deassertions (is_listed (members_in field.Deassert tree)) p.deassertions q.deassertions in
    λ i. record { assertions = assertions i; deassertions = deassertions i }

other_word : (v w : List ℕ) (tree : Members) → has_text field.Select v tree ≡ true → has_text field.Select w tree ≡ true → v ≡ w
other_word v w tree p q = one_word field.Select v w tree p q

one_change : (tree : Members) (a b : EventChange) → HoldsChange tree a → HoldsChange tree b → a ≡ b
one_change tree change.Leave change.Leave p q = refl
one_change tree change.Leave (change.Enable b) p q = let same = other_word (codes "leave") (codes "enable") tree p q.0 in cc same
one_change tree change.Leave (change.Disable b) p q = let same = other_word (codes "leave") (codes "disable") tree p q.0 in cc same
one_change tree (change.Enable a) change.Leave p q = let same = other_word (codes "enable") (codes "leave") tree p.0 q in cc same
one_change tree (change.Enable a) (change.Enable b) p q = ap change.Enable (one_events tree a b p.1 q.1)
one_change tree (change.Enable a) (change.Disable b) p q = let same = other_word (codes "enable") (codes "disable") tree p.0 q.0 in cc same
one_change tree (change.Disable a) change.Leave p q = let same = other_word (codes "disable") (codes "leave") tree p.0 q in cc same
one_change tree (change.Disable a) (change.Enable b) p q = let same = other_word (codes "disable") (codes "enable") tree p.0 q.0 in cc same
one_change tree (change.Disable a) (change.Disable b) p q = ap change.Disable (one_events tree a b p.1 q.1)
one_change tree change.Reserved b p q = absurd p
one_change tree change.Leave change.Reserved p q = absurd q
one_change tree (change.Enable a) change.Reserved p q = absurd q
one_change tree (change.Disable a) change.Reserved p q = absurd q

one : (tree : Members) (a b : SetEventEnable) → HoldsEventEnable tree a → HoldsEventEnable tree b → a ≡ b
one tree a b p q =
    let sensor = one_number field.Sensor tree a.sensor b.sensor p.sensor q.sensor in
    let messages = one_found (flag_in field.Messages tree) a.messages b.messages p.messages q.messages in
    let scanning = one_found (flag_in field.Scanning tree) a.scanning b.scanning p.scanning q.scanning in
    let change = one_change tree a.change b.change p.change q.change in
    λ i. record { sensor = sensor i; messages = messages i; scanning = scanning i; change = change i }

-- the operation that such a step holds is one
pub only : IsOne HoldsOp
only tree = elim [ op.EventEnable a ↦ elim [ op.EventEnable b ↦ λ p q. ap op.EventEnable (one tree a b p q) | _ ↦ λ p q. absurd q ] | _ ↦ λ b p. absurd p ]
