-- What is foreseen of a state effecter.
use Rattle.std.proofs.Common.{◌≡◌, ℕ, suc, List, [], ◌∷◌, length, true, refl, sym, ◌∙◌, ap, arith}
use Rattle.record_base.specs.declared.field_changes.FieldChange.{FieldChange}
use Rattle.record_base.specs.declared.state_effecter.StateEffecter.{StateEffecter}
use Rattle.record_base.specs.declared.state_effecter.StateField.{StateField}
use Rattle.record_base.specs.declared.state_effecter.SetStateEffecter.{SetStateEffecter}
use Rattle.record_base.specs.MaskLaws.{both_true}
use Rattle.record_base.specs.StateEffecter.{are_states}
use Rattle.effecter_recs.specs.ChangeLaws.{only_states}
use Rattle.effecter_recs.specs.FieldChanges.{changed_states, shown_fields}
use Rattle.effecter_recs.specs.Requests.{operational_state}
use Rattle.effecter_recs.specs.State.{SetsStates, state_view, words, record_words}
use Rattle.effecter_recs.specs.StateLaws.{record_laws}
use Rattle.shown_records.specs.Effecters.{changed_fields, after_states}
use Rattle.shown_records.proofs.Foreseen.{IsForeseen, whole_foreseen}

-- the states of fields are as many as the fields
as_many : (fields : List StateField) (states : List ℕ) → are_states fields states ≡ true → length states ≡ length fields
as_many [] [] is = refl
as_many (field ∷ fields) (state ∷ states) is = ap suc (as_many fields states (both_true _ _ is).1)
as_many [] (state ∷ states) is = cc
as_many (field ∷ fields) [] is = cc

three_more : (a b : ℕ) (xs ys : List ℕ) → xs ≡ ys → a ∷ b ∷ b ∷ xs ≡ a ∷ b ∷ b ∷ ys
three_more a b xs ys same = ap (λ (zs : List ℕ). a ∷ b ∷ b ∷ zs) same

-- the fields after changes are those that show the changed states
shows_changed : (operational : ℕ) (changes : List FieldChange) (old : List ℕ) → length changes ≡ length old
    → shown_fields operational (changed_states changes old) ≡ changed_fields changes (shown_fields operational old)
shows_changed operational [] [] many = refl
shows_changed operational (c ∷ cs) (s ∷ ss) many = three_more _ _ _ _ (shows_changed operational cs ss (omega arith))
shows_changed operational [] (s ∷ ss) many = absurd (omega arith)
shows_changed operational (c ∷ cs) [] many = absurd (omega arith)

-- a change is for each state
many_states : (effecter : StateEffecter) (op : SetStateEffecter) (old new : List ℕ) → are_states effecter.fields old ≡ true → SetsStates effecter op old new → length op.changes ≡ length old
many_states effecter op old new is_valid done = done.many ∙ sym (as_many effecter.fields old is_valid)

same_count : (effecter : StateEffecter) (op : SetStateEffecter) (old new : List ℕ) → are_states effecter.fields old ≡ true → SetsStates effecter op old new → length new ≡ length old
same_count effecter op old new is_valid done = done.is_new.many ∙ many_states effecter op old new is_valid done

counted : (a b : ℕ) (xs ys : List ℕ) → a ≡ b → xs ≡ ys → a ∷ xs ≡ b ∷ ys
counted a b xs ys p q i = p i ∷ q i

view_is : (effecter : StateEffecter) (op : SetStateEffecter) (old new : List ℕ) → are_states effecter.fields old ≡ true → SetsStates effecter op old new
    → state_view effecter new ≡ after_states op (state_view effecter old)
view_is effecter op old new is_valid done =
    counted _ _ _ _ (same_count effecter op old new is_valid done)
    (ap (shown_fields (operational_state effecter.enabled)) (only_states op.changes old new done.is_new)
    ∙ shows_changed (operational_state effecter.enabled) op.changes old (many_states effecter op old new is_valid done))

pub foreseen : (effecter : StateEffecter) → IsForeseen words (record_words effecter) after_states
foreseen effecter = whole_foreseen words (record_words effecter) after_states (record_laws effecter) (λ value. refl) (λ op old new live. view_is effecter op old new)
