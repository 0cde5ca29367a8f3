-- What sets a state effecter to what its Get shows.
use Rattle.std.proofs.Common.{◌≡◌, ℕ, zero, suc, List, [], ◌∷◌, drop, slice_get, slice_index, Bool, true, false, not, ◌&&◌, ◌||◌, ◌==◌, Some, None, if◌then◌else◌, refl, sym, ◌∙◌, ap}
use Rattle.record_base.specs.declared.field_changes.FieldChange.{FieldChange}
use Rattle.record_base.specs.declared.state_effecter.StateEffecter.{StateEffecter}
use Rattle.record_base.specs.declared.state_effecter.SetStateEffecter.{SetStateEffecter}
use Rattle.effecter_recs.specs.ChangeLaws.{same_states}
use Rattle.effecter_recs.specs.FieldChanges.{set_to, leave, is_set, undo_changes, are_enabled}
use Rattle.effecter_recs.specs.Requests.{enabled_state}
use Rattle.effecter_recs.specs.State.{SetsStates, is_undoable, is_state_reply, undo_states, words, record_words}
use Rattle.effecter_recs.specs.StateLaws.{record_laws}
use Rattle.shown_records.specs.Probes.{probe_states, set_fields}
use Rattle.shown_records.proofs.SetBack.{IsSetBack, any_values, set_back_by}

-- ---- what takes changes back, taken back by the same reply

one_again : (b : Bool) (present : ℕ) → (if is_set (if b then set_to present else leave) then set_to present else leave) ≡ (if b then set_to present else leave)
one_again true present = refl
one_again false present = refl

all_again : (changes : List FieldChange) (shown : List ℕ) → undo_changes (undo_changes changes shown) shown ≡ undo_changes changes shown
all_again [] shown = refl
all_again (c ∷ cs) shown = λ i. one_again (is_set c) (slice_index shown 2) i ∷ all_again cs (drop 3 shown) i

undo_again : (op : SetStateEffecter) (reply : List ℕ) → undo_states (undo_states op reply) reply ≡ undo_states op reply
undo_again op reply = same_states _ _ _ _ _ _ refl (all_again op.changes (drop 1 reply))

-- it is on the same fields
one_set : (b : Bool) (present : ℕ) → is_set (if b then set_to present else leave) ≡ b
one_set true present = refl
one_set false present = refl

as_enabled : (changes : List FieldChange) (shown : List ℕ) → are_enabled (undo_changes changes shown) shown ≡ are_enabled changes shown
as_enabled [] shown = refl
as_enabled (c ∷ cs) shown = λ i. (not (one_set (is_set c) (slice_index shown 2) i) || (slice_index shown 0 == enabled_state)) && as_enabled cs (drop 3 shown) i

as_undoable : (op : SetStateEffecter) (reply : List ℕ) → is_undoable (undo_states op reply) reply ≡ is_undoable op reply
as_undoable op reply = ap (λ (b : Bool). is_state_reply reply && b) (as_enabled op.changes (drop 1 reply))

again_is : (op : SetStateEffecter) (reply : List ℕ) → is_undoable op reply ≡ true → words.inverse (undo_states op reply) reply ≡ Some (undo_states op reply)
again_is op reply holds =
    ap (λ b. if b then Some (undo_states (undo_states op reply) reply) else None) (as_undoable op reply ∙ holds) ∙ ap Some (undo_again op reply)

-- ---- each of its changes sets its field

same_some : (c d : FieldChange) → Some c ≡ Some d → c ≡ d
same_some c d same = cc

all_set : (count : ℕ) (shown : List ℕ) (place : ℕ) (change : FieldChange) → slice_get (undo_changes (set_fields count) shown) place ≡ Some change → is_set change ≡ true
all_set zero shown place change there = cc
all_set (suc count) shown zero change there = ap is_set (sym (same_some (set_to (slice_index shown 2)) change there))
all_set (suc count) shown (suc place) change there = all_set count (drop 3 shown) place change there

true_not_false : (b : Bool) → b ≡ true → b ≡ false → ⊥
true_not_false b t f = cc

moves : (effecter : StateEffecter) (op : SetStateEffecter) (one other made : List ℕ) → ((place : ℕ) (change : FieldChange) → slice_get op.changes place ≡ Some change → is_set change ≡ true)
    → SetsStates effecter op one made → SetsStates effecter op other made
moves effecter op one other made all done = record {
  many = done.many;
  choices = done.choices;
  enabled = done.enabled;
  is_new = record { many = done.is_new.many; set = done.is_new.set; left = λ place change there gone. absurd (true_not_false (is_set change) (all place change there) gone) };
  allowed = done.allowed;
}

pub set_back : (effecter : StateEffecter) → IsSetBack words (record_words effecter) probe_states any_values
set_back effecter =
    set_back_by words (record_words effecter) (record_laws effecter) _ (λ id reply. is_undoable (probe_states id reply) reply) (λ id reply. undo_states (probe_states id reply) reply) (λ id reply. refl)
    (λ id reply. again_is (probe_states id reply) reply) (λ id reply one other made holds. moves effecter (undo_states (probe_states id reply) reply) one other made (all_set _ (drop 1 reply)))
