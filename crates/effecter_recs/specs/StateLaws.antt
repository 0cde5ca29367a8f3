-- The laws of the kind StateEffecter.
use Rattle.std.proofs.Common.{◌≡◌, ℕ, ◌≤◌, List, length, drop, Bool, true, false, ◌||◌, not, nat_le, if◌then◌else◌, Ok, Err, refl, sym, ◌∙◌, ap, subst, lit<, arith}
use Rattle.std.proofs.Props.{props}
use Rattle.std.proofs.lemmas.Bool.Decides.{nat_tests}
use Rattle.two_wire.specs.Codes.{pldm_invalid_data, pldm_invalid_state}
use Rattle.record_base.specs.declared.state_effecter.StateEffecter.{StateEffecter}
use Rattle.record_base.specs.declared.state_effecter.SetStateEffecter.{SetStateEffecter}
use Rattle.record_base.specs.MaskLaws.{both_true, both}
use Rattle.record_base.specs.Meaning.{DecidesValue, IsRefusal}
use Rattle.record_base.specs.InverseLaws.{some_where, made_where, tested_same, same_tested}
use Rattle.record_base.specs.Kind.{KindLaws, RecordLaws}
use Rattle.record_base.specs.BoardSizes.{most_state_fields}
use Rattle.record_base.specs.StateEffecter.{are_states}
use Rattle.record_base.specs.StateLaws.{as_many}
use Rattle.effecter_recs.specs.Requests.{operational_state}
use Rattle.effecter_recs.specs.FieldChanges.{ChangesStates, changed_states, shown_fields, undo_changes}
use Rattle.effecter_recs.specs.ChangeLaws.{changes_states, only_states, as_many_undone, three_each, same_set, undo_chooses, undo_is_plain, states_back, states_told}
use Rattle.effecter_recs.specs.State.{SetsStates, fits_effecter, state_view, IsStateReply, is_state_reply, is_undoable, undo_states, words, record_words}

-- ---- tests say what they are named for

le_true : (a b : ℕ) → a ≤ b → nat_le a b ≡ true
le_true a b h = grind (arith, nat_tests)

true_le : (a b : ℕ) → nat_le a b ≡ true → a ≤ b
true_le a b h = grind (arith, nat_tests)

reply_true : (reply : List ℕ) → is_state_reply reply ≡ true → IsStateReply reply
reply_true reply h =
    let tests = both_true _ _ h in
    let more = both_true _ _ tests.1 in
    record { some = true_le _ _ tests.0; few = true_le _ _ more.0; whole = tested_same _ _ more.1 }

true_reply : (reply : List ℕ) → IsStateReply reply → is_state_reply reply ≡ true
true_reply reply is = both _ _ (le_true _ _ is.some) (both _ _ (le_true _ _ is.few) (same_tested _ _ is.whole))

-- ---- what a Set makes

fits_true : (effecter : StateEffecter) (op : SetStateEffecter) (old : List ℕ) → fits_effecter effecter op.changes ≡ true → are_states effecter.fields (changed_states op.changes old) ≡ true
    → SetsStates effecter op old (changed_states op.changes old)
fits_true effecter op old h is =
    let tests = both_true _ _ h in
    let more = both_true _ _ tests.1 in
    record { many = tested_same _ _ tests.0; choices = more.0; enabled = more.1; is_new = changes_states op.changes old; allowed = is }

true_fits : (effecter : StateEffecter) (op : SetStateEffecter) (old new : List ℕ) → SetsStates effecter op old new → fits_effecter effecter op.changes ≡ true
true_fits effecter op old new s = both _ _ (same_tested _ _ s.many) (both _ _ s.choices s.enabled)

decided : (effecter : StateEffecter) (op : SetStateEffecter) (old : List ℕ) (a b : Bool) → fits_effecter effecter op.changes ≡ a → are_states effecter.fields (changed_states op.changes old) ≡ b
    → DecidesValue (if a then (if b then Ok (changed_states op.changes old) else Err pldm_invalid_state) else Err pldm_invalid_data) (SetsStates effecter op old)
decided effecter op old true true fits is = fits_true effecter op old fits is
decided effecter op old true false fits is = λ new s.
    let takes : are_states effecter.fields (changed_states op.changes old) ≡ true = subst (λ (v : List ℕ). are_states effecter.fields v ≡ true) (only_states op.changes old new s.is_new) s.allowed in cc
decided effecter op old false b fits is = λ new s.
    let has : fits_effecter effecter op.changes ≡ true = true_fits effecter op old new s in cc

data_refused : IsRefusal pldm_invalid_data
data_refused = record { is_fault = lit< tt; is_byte = lit< tt; not_busy = λ same. omega arith; is_ready = λ same. omega arith }

state_refused : IsRefusal pldm_invalid_state
state_refused = record { is_fault = lit< tt; is_byte = lit< tt; not_busy = λ same. omega arith; is_ready = λ same. omega arith }

refused : (made : List ℕ) (code : ℕ) (a b : Bool) → (if a then (if b then Ok made else Err pldm_invalid_state) else Err pldm_invalid_data) ≡ Err code → IsRefusal code
refused made code true true is = cc
refused made code true false is = let same : pldm_invalid_state ≡ code = cc in subst IsRefusal same state_refused
refused made code false b is = let same : pldm_invalid_data ≡ code = cc in subst IsRefusal same data_refused

-- ---- what a Get replies

-- a value has one state or more
pub counted : (effecter : StateEffecter) (value : List ℕ) → are_states effecter.fields value ≡ true → (1 ≤ length value) × (length value ≤ most_state_fields)
counted effecter value is = let many : length value ≡ length effecter.fields = as_many effecter.fields value is in (omega (arith, effecter.some), omega (arith, effecter.few))

reply_is : (effecter : StateEffecter) (value : List ℕ) → are_states effecter.fields value ≡ true → IsStateReply (state_view effecter value)
reply_is effecter value is =
    let count = counted effecter value is in
    record { some = count.0; few = count.1; whole = omega (arith, three_each (operational_state effecter.enabled) value) }

-- the inverse from a Get reply brings the value back
undoes_states : (effecter : StateEffecter) (op : SetStateEffecter) (old new : List ℕ) → are_states effecter.fields old ≡ true → SetsStates effecter op old new → SetsStates effecter (undo_states op (state_view effecter old)) new old
undoes_states effecter op old new is_valid s =
    let shown : List ℕ = shown_fields (operational_state effecter.enabled) old in
    let again : changed_states (undo_changes op.changes shown) new ≡ old =
    ap (changed_states (undo_changes op.changes shown)) (only_states op.changes old new s.is_new) ∙ states_back (operational_state effecter.enabled) op.changes old (s.many ∙ sym (as_many effecter.fields old is_valid)) in
    record {
      many = as_many_undone op.changes shown ∙ s.many;
      choices = undo_chooses op.changes shown;
      enabled = ap (λ (b : Bool). effecter.enabled || not b) (same_set op.changes shown) ∙ s.enabled;
      is_new = subst (ChangesStates (undo_changes op.changes shown) new) again (changes_states (undo_changes op.changes shown) new);
      allowed = is_valid;
    }

-- ---- the kind

pub kind_laws : KindLaws words
kind_laws = record {
  set_short = λ op. omega arith;
  invertible = λ op reply. some_where (is_undoable op reply) (undo_states op reply) _
      (λ is. let tests = both_true _ _ is in (reply_true reply tests.0, tests.1))
      (λ h. both _ _ (true_reply reply h.0) h.1);
  plain = λ op made reply is.
      subst (λ (o : SetStateEffecter). words.is_plain o) (made_where (is_undoable op reply) (undo_states op reply) made is).1 (undo_is_plain op.changes (drop 1 reply));
}

pub record_laws : (effecter : StateEffecter) → RecordLaws words (record_words effecter)
record_laws effecter = record {
  one_proof = λ value. hlevel props;
  taken = λ op old new done. tt;
  decides = λ op value. decided effecter op value _ _ refl refl;
  refuses = λ op value code is. refused (changed_states op.changes value) code (fits_effecter effecter op.changes) (are_states effecter.fields (changed_states op.changes value)) is;
  determined = λ op old new other done also. only_states op.changes old new done.is_new ∙ sym (only_states op.changes old other also.is_new);
  keeps = λ op old new is_valid done. done.allowed;
  fits = λ op old new done. let count = counted effecter new done.allowed in both _ _ (le_true _ _ count.0) (le_true _ _ count.1);
  replies = λ op value live here is_valid. reply_is effecter value is_valid;
  get_short = λ id value live here is_valid. let count = counted effecter value is_valid in omega (arith, three_each (operational_state effecter.enabled) value);
  steady = λ value live other. refl;
  tells = λ value other live is_valid is_other same. states_told (operational_state effecter.enabled) value other (ap (drop 1) same);
  same_record = λ op made value live here is_valid is.
      ap (λ (o : SetStateEffecter). o.effecter) (sym (made_where (is_undoable op (state_view effecter value)) (undo_states op (state_view effecter value)) made is).1);
  undoes = λ op made old new live is_valid done is.
      subst (λ (o : SetStateEffecter). SetsStates effecter o new old) (made_where (is_undoable op (state_view effecter old)) (undo_states op (state_view effecter old)) made is).1
      (undoes_states effecter op old new is_valid done);
}
