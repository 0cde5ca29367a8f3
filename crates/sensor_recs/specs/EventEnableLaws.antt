-- The laws of the kind EventEnable.
use Rattle.std.proofs.Common.{◌≡◌, ℕ, zero, suc, ◌+◌, ◌*◌, ◌%◌, ◌^◌, ◌<◌, min, max, bit_and, bit_or, List, [], ◌∷◌, length, slice_index, Bool, true, false, ◌||◌, ◌&&◌, ◌==◌, not, if◌then◌else◌, Ok, Err, refl, sym, ◌∙◌, ap, subst, arith}
use Rattle.std.specs.Int.{bit_at}
use Rattle.std.proofs.lemmas.Grind.{same_number_lists, common_steps}
use Rattle.std.proofs.lemmas.Nat.Bits.{bit_at_and, bit_at_or, bit_at_xor, bit_at-lt, same_from_bits_below}
use Rattle.two_wire.specs.Codes.{invalid_data_field}
use Rattle.record_base.specs.declared.key.Key.TheVariants as key
use Rattle.record_base.specs.declared.event_enable.EventMasks.{EventMasks}
use Rattle.record_base.specs.declared.event_enable.EventChange.{EventChange}
use Rattle.record_base.specs.declared.event_enable.EventChange.TheVariants.{Leave, Enable, Disable, Reserved}
use Rattle.record_base.specs.declared.event_enable.SetEventEnable.{SetEventEnable}
use Rattle.record_base.specs.Keys.{is_length}
use Rattle.record_base.specs.Masks.{has}
use Rattle.record_base.specs.MaskLaws.{both_true, both}
use Rattle.record_base.specs.Meaning.{DecidesValue, IsRefusal}
use Rattle.record_base.specs.InverseLaws.{some_where, made_where, tested_same, same_tested}
use Rattle.record_base.specs.Kind.{KindLaws, RecordLaws}
use Rattle.record_base.specs.RefusalLaws.{refused_field}
use Rattle.record_base.specs.Sensor.EventEnable.{AreWithin, are_within, flags_byte, makes_messages, is_scanning, event_value, enabled_in, IsEventValue, IsEventEnable}
use Rattle.record_base.specs.PartLaws.{IsEventEnable-prop}
use Rattle.record_base.specs.EventLaws.{within_true, true_within, has_in_two_bytes, messages_are, scanning_is, is_event_value}
use Rattle.sensor_recs.specs.EventEnable.{IsSame, AreSupported, ChangesMasks, SetsEventEnable, difference, events_after, is_accepted, value_after, undo_change, undo_event_enable, words, record_words}

-- ---- sets of events, bit by bit

or_test : (a b : ℕ) → a < 2 → b < 2 → (max a b == 1) ≡ ((a == 1) || (b == 1))
or_test zero zero small also = refl
or_test zero (suc zero) small also = refl
or_test zero (suc (suc b)) small also = absurd (omega arith)
or_test (suc zero) zero small also = refl
or_test (suc zero) (suc zero) small also = refl
or_test (suc zero) (suc (suc b)) small also = absurd (omega arith)
or_test (suc (suc a)) b small also = absurd (omega arith)

and_test : (a b : ℕ) → a < 2 → b < 2 → (min a b == 1) ≡ ((a == 1) && (b == 1))
and_test zero zero small also = refl
and_test zero (suc zero) small also = refl
and_test zero (suc (suc b)) small also = absurd (omega arith)
and_test (suc zero) zero small also = refl
and_test (suc zero) (suc zero) small also = refl
and_test (suc zero) (suc (suc b)) small also = absurd (omega arith)
and_test (suc (suc a)) b small also = absurd (omega arith)

difference_test : (a b : ℕ) → a < 2 → b < 2 → ((a + min a b) % 2 == 1) ≡ ((a == 1) && not (b == 1))
difference_test zero zero small also = refl
difference_test zero (suc zero) small also = refl
difference_test zero (suc (suc b)) small also = absurd (omega arith)
difference_test (suc zero) zero small also = refl
difference_test (suc zero) (suc zero) small also = refl
difference_test (suc zero) (suc (suc b)) small also = absurd (omega arith)
difference_test (suc (suc a)) b small also = absurd (omega arith)

pub has_or : (a b offset : ℕ) → has (bit_or a b) offset ≡ (has a offset || has b offset)
has_or a b offset = ap (λ (n : ℕ). n == 1) (bit_at_or a b offset) ∙ or_test _ _ (bit_at-lt a offset) (bit_at-lt b offset)

pub has_and : (a b offset : ℕ) → has (bit_and a b) offset ≡ (has a offset && has b offset)
has_and a b offset = ap (λ (n : ℕ). n == 1) (bit_at_and a b offset) ∙ and_test _ _ (bit_at-lt a offset) (bit_at-lt b offset)

pub has_difference : (a b offset : ℕ) → has (difference a b) offset ≡ (has a offset && not (has b offset))
has_difference a b offset =
    ap (λ (n : ℕ). n == 1) (bit_at_xor a (bit_and a b) offset ∙ ap (λ (n : ℕ). (bit_at a offset + n) % 2) (bit_at_and a b offset))
    ∙ difference_test _ _ (bit_at-lt a offset) (bit_at-lt b offset)

same_bit : (a b : ℕ) → a < 2 → b < 2 → (a == 1) ≡ (b == 1) → a ≡ b
same_bit zero zero small also same = refl
same_bit zero (suc zero) small also same = cc
same_bit zero (suc (suc b)) small also same = absurd (omega arith)
same_bit (suc zero) zero small also same = cc
same_bit (suc zero) (suc zero) small also same = refl
same_bit (suc zero) (suc (suc b)) small also same = absurd (omega arith)
same_bit (suc (suc a)) b small also same = absurd (omega arith)

-- two sets of sixteen events with the same events are one
same_events : (a b : ℕ) → a < 2 ^ 16 → b < 2 ^ 16 → ((offset : ℕ) → offset < 16 → has a offset ≡ has b offset) → a ≡ b
same_events a b small also same = same_from_bits_below 16 a b small also (λ k lt. same_bit _ _ (bit_at-lt a k) (bit_at-lt b k) (same k lt))

-- ---- what a Set makes

-- five bytes are those of a value where its flags and events are
low_byte : (a b c d : ℕ) → a < 256 → c < 256 → a + 256 * b ≡ c + 256 * d → (a ≡ c) × (b ≡ d)
low_byte a b c d small also same = (omega arith, omega arith)

word_fits : (a b : ℕ) → a < 256 → b < 256 → a + 256 * b < 2 ^ 16
word_fits a b small also = omega arith

five_members : (xs : List ℕ) → length xs ≡ 5 → xs ≡ slice_index xs 0 ∷ slice_index xs 1 ∷ slice_index xs 2 ∷ slice_index xs 3 ∷ slice_index xs 4 ∷ []
five_members xs five = same_number_lists _ _ five (λ k lt. grind (arith, common_steps))

five_bytes : (a b c d e v w x y z : ℕ) → a ≡ v → b ≡ w → c ≡ x → d ≡ y → e ≡ z → a ∷ b ∷ c ∷ d ∷ e ∷ [] ≡ v ∷ w ∷ x ∷ y ∷ z ∷ []
five_bytes a b c d e v w x y z p q r s t = cc

-- two values with the same flags and events are one
one_value : (a b : List ℕ) → IsEventValue a → IsEventValue b
    → makes_messages (slice_index a 0) ≡ makes_messages (slice_index b 0) → is_scanning (slice_index a 0) ≡ is_scanning (slice_index b 0)
    → IsSame (enabled_in a).assertions (enabled_in b).assertions → IsSame (enabled_in a).deassertions (enabled_in b).deassertions → a ≡ b
one_value a b of_a of_b messages scanning asserted deasserted =
    let fits : (xs : List ℕ) (v : IsEventValue xs) (i j : ℕ) → i < 5 → j < 5 → slice_index xs i + 256 * slice_index xs j < 2 ^ 16 = λ xs v i j p q. word_fits _ _ (v.bytes i p) (v.bytes j q) in
    let up : slice_index a 1 + 256 * slice_index a 2 ≡ slice_index b 1 + 256 * slice_index b 2
    = same_events _ _ (fits a of_a 1 2 (omega arith) (omega arith)) (fits b of_b 1 2 (omega arith) (omega arith)) (λ k lt. sym (asserted k lt)) in
    let down : slice_index a 3 + 256 * slice_index a 4 ≡ slice_index b 3 + 256 * slice_index b 4
    = same_events _ _ (fits a of_a 3 4 (omega arith) (omega arith)) (fits b of_b 3 4 (omega arith) (omega arith)) (λ k lt. sym (deasserted k lt)) in
    let first = low_byte _ _ _ _ (of_a.bytes 1 (omega arith)) (of_b.bytes 1 (omega arith)) up in
    let second = low_byte _ _ _ _ (of_a.bytes 3 (omega arith)) (of_b.bytes 3 (omega arith)) down in
    let flags : slice_index a 0 ≡ slice_index b 0 = of_a.flags ∙ ap (λ (m : Bool). flags_byte m (is_scanning (slice_index a 0))) messages ∙ ap (flags_byte (makes_messages (slice_index b 0))) scanning ∙ sym of_b.flags in
    five_members a of_a.five ∙ five_bytes _ _ _ _ _ _ _ _ _ _ flags first.0 first.1 second.0 second.1 ∙ sym (five_members b of_b.five)

-- what a change makes of the enabled events
changes_after : (supported : ℕ) (change : EventChange) (messages scanning : Bool) (old : EventMasks) → is_accepted supported change ≡ true → ChangesMasks supported change old (enabled_in (event_value messages scanning (events_after change old)))
changes_after supported Leave messages scanning old is = (λ k lt. has_in_two_bytes old.assertions k lt, λ k lt. has_in_two_bytes old.deassertions k lt)
changes_after supported (Enable more) messages scanning old is =
    let tests = both_true (are_within more.assertions supported) (are_within more.deassertions supported) is in (
      record { assertions = within_true _ _ tests.0; deassertions = within_true _ _ tests.1 },
      λ k lt. has_in_two_bytes (bit_or old.assertions more.assertions) k lt ∙ has_or old.assertions more.assertions k,
      λ k lt. has_in_two_bytes (bit_or old.deassertions more.deassertions) k lt ∙ has_or old.deassertions more.deassertions k,
    )
changes_after supported (Disable less) messages scanning old is =
    let tests = both_true (are_within less.assertions supported) (are_within less.deassertions supported) is in (
      record { assertions = within_true _ _ tests.0; deassertions = within_true _ _ tests.1 },
      λ k lt. has_in_two_bytes (difference old.assertions less.assertions) k lt ∙ has_difference old.assertions less.assertions k,
      λ k lt. has_in_two_bytes (difference old.deassertions less.deassertions) k lt ∙ has_difference old.deassertions less.deassertions k,
    )
changes_after supported Reserved messages scanning old is = cc

-- only an accepted change changes them
accepted : (supported : ℕ) (change : EventChange) (old new : EventMasks) → ChangesMasks supported change old new → is_accepted supported change ≡ true
accepted supported Leave old new changes = refl
accepted supported (Enable more) old new changes = both _ _ (true_within _ _ changes.0.assertions) (true_within _ _ changes.0.deassertions)
accepted supported (Disable less) old new changes = both _ _ (true_within _ _ changes.0.assertions) (true_within _ _ changes.0.deassertions)
accepted supported Reserved old new changes = absurd changes

-- a change makes one set of events
one_change : (supported : ℕ) (change : EventChange) (old new other : EventMasks) → ChangesMasks supported change old new → ChangesMasks supported change old other → IsSame new.assertions other.assertions × IsSame new.deassertions other.deassertions
one_change supported Leave old new other done also = (λ k lt. also.0 k lt ∙ sym (done.0 k lt), λ k lt. also.1 k lt ∙ sym (done.1 k lt))
one_change supported (Enable more) old new other done also = (λ k lt. also.1 k lt ∙ sym (done.1 k lt), λ k lt. also.2 k lt ∙ sym (done.2 k lt))
one_change supported (Disable less) old new other done also = (λ k lt. also.1 k lt ∙ sym (done.1 k lt), λ k lt. also.2 k lt ∙ sym (done.2 k lt))
one_change supported Reserved old new other done also = absurd done

sets_after : (supported : ℕ) (op : SetEventEnable) (old : List ℕ) → is_accepted supported op.change ≡ true → SetsEventEnable supported op old (value_after op old)
sets_after supported op old is = record {
  is_value = is_event_value op.messages op.scanning (events_after op.change (enabled_in old));
  messages = messages_are op.messages op.scanning;
  scanning = scanning_is op.messages op.scanning;
  events = changes_after supported op.change op.messages op.scanning (enabled_in old) is;
}

decided : (supported : ℕ) (op : SetEventEnable) (old : List ℕ) (b : Bool) → is_accepted supported op.change ≡ b → DecidesValue (if b then Ok (value_after op old) else Err invalid_data_field) (SetsEventEnable supported op old)
decided supported op old true is = sets_after supported op old is
decided supported op old false is = λ new s. let takes : is_accepted supported op.change ≡ true = accepted supported op.change (enabled_in old) (enabled_in new) s.events in cc

refused : (made : List ℕ) (code : ℕ) (b : Bool) → (if b then Ok made else Err invalid_data_field) ≡ Err code → IsRefusal code
refused made code true is = cc
refused made code false is = refused_field code (Err invalid_data_field) refl is

determined : (supported : ℕ) (op : SetEventEnable) (old new other : List ℕ) → SetsEventEnable supported op old new → SetsEventEnable supported op old other → new ≡ other
determined supported op old new other done also =
    let same = one_change supported op.change (enabled_in old) (enabled_in new) (enabled_in other) done.events also.events in
    one_value new other done.is_value also.is_value (done.messages ∙ sym also.messages) (done.scanning ∙ sym also.scanning) same.0 same.1

-- the enabled events stay supported
of_either : (a b c : Bool) → (a ≡ true → c ≡ true) → (b ≡ true → c ≡ true) → (a || b) ≡ true → c ≡ true
of_either true b c p q h = p refl
of_either false b c p q h = q h

of_first : (a b c : Bool) → (a ≡ true → c ≡ true) → (a && b) ≡ true → c ≡ true
of_first true b c p h = p refl
of_first false b c p h = cc

stay_supported : (supported : ℕ) (change : EventChange) (old new : EventMasks) → AreSupported supported old → ChangesMasks supported change old new → AreSupported supported new
stay_supported supported Leave old new are changes = record {
  assertions = λ k lt there. are.assertions k lt (sym (changes.0 k lt) ∙ there);
  deassertions = λ k lt there. are.deassertions k lt (sym (changes.1 k lt) ∙ there);
}
stay_supported supported (Enable more) old new are changes = record {
  assertions = λ k lt there. of_either _ _ _ (are.assertions k lt) (changes.0.assertions k lt) (sym (changes.1 k lt) ∙ there);
  deassertions = λ k lt there. of_either _ _ _ (are.deassertions k lt) (changes.0.deassertions k lt) (sym (changes.2 k lt) ∙ there);
}
stay_supported supported (Disable less) old new are changes = record {
  assertions = λ k lt there. of_first _ _ _ (are.assertions k lt) (sym (changes.1 k lt) ∙ there);
  deassertions = λ k lt there. of_first _ _ _ (are.deassertions k lt) (sym (changes.2 k lt) ∙ there);
}
stay_supported supported Reserved old new are changes = absurd changes

are_supported : (supported : ℕ) (value : List ℕ) → IsEventEnable supported value → AreSupported supported (enabled_in value)
are_supported supported value v = record { assertions = v.assertions; deassertions = v.deassertions }

keeps_events : (supported : ℕ) (op : SetEventEnable) (old new : List ℕ) → IsEventEnable supported old → SetsEventEnable supported op old new → IsEventEnable supported new
keeps_events supported op old new v s =
    let are = stay_supported supported op.change (enabled_in old) (enabled_in new) (are_supported supported old v) s.events in
    record { is_value = s.is_value; assertions = are.assertions; deassertions = are.deassertions }

-- ---- what an undo brings back

union_less : (old more : Bool) → old ≡ ((old || more) && not (more && not old))
union_less true true = refl
union_less true false = refl
union_less false true = refl
union_less false false = refl

-- with the new events of a union taken away again, the old ones are left
union_undone : (old more new : Bool) → new ≡ (old || more) → old ≡ (new && not (more && not old))
union_undone old more new is = union_less old more ∙ sym (ap (λ (b : Bool). b && not (more && not old)) is)

difference_more : (old less : Bool) → old ≡ ((old && not less) || (less && old))
difference_more true true = refl
difference_more true false = refl
difference_more false true = refl
difference_more false false = refl

-- with the old events among those taken away, all old ones are back
difference_undone : (old less new : Bool) → new ≡ (old && not less) → old ≡ (new || (less && old))
difference_undone old less new is = difference_more old less ∙ sym (ap (λ (b : Bool). b || (less && old)) is)

-- events that are among supported ones
within_first : (a b supported : ℕ) → AreWithin a supported → AreWithin (difference a b) supported
within_first a b supported within k lt there = of_first _ _ _ (within k lt) (sym (has_difference a b k) ∙ there)

within_both : (a b supported : ℕ) → AreWithin a supported → AreWithin (bit_and a b) supported
within_both a b supported within k lt there = of_first _ _ _ (within k lt) (sym (has_and a b k) ∙ there)

undone_change : (supported : ℕ) (change : EventChange) (old new : EventMasks) → ChangesMasks supported change old new → ChangesMasks supported (undo_change change old) new old
undone_change supported Leave old new changes = (λ k lt. sym (changes.0 k lt), λ k lt. sym (changes.1 k lt))
undone_change supported (Enable more) old new changes = (
  record { assertions = within_first more.assertions old.assertions supported changes.0.assertions; deassertions = within_first more.deassertions old.deassertions supported changes.0.deassertions },
  λ k lt. union_undone _ (has more.assertions k) _ (changes.1 k lt) ∙ ap (λ (b : Bool). has new.assertions k && not b) (sym (has_difference more.assertions old.assertions k)),
  λ k lt. union_undone _ (has more.deassertions k) _ (changes.2 k lt) ∙ ap (λ (b : Bool). has new.deassertions k && not b) (sym (has_difference more.deassertions old.deassertions k)),
)
undone_change supported (Disable less) old new changes = (
  record { assertions = within_both less.assertions old.assertions supported changes.0.assertions; deassertions = within_both less.deassertions old.deassertions supported changes.0.deassertions },
  λ k lt. difference_undone _ (has less.assertions k) _ (changes.1 k lt) ∙ ap (λ (b : Bool). has new.assertions k || b) (sym (has_and less.assertions old.assertions k)),
  λ k lt. difference_undone _ (has less.deassertions k) _ (changes.2 k lt) ∙ ap (λ (b : Bool). has new.deassertions k || b) (sym (has_and less.deassertions old.deassertions k)),
)
undone_change supported Reserved old new changes = absurd changes

undoes_events : (supported : ℕ) (op : SetEventEnable) (old new : List ℕ) → IsEventEnable supported old → SetsEventEnable supported op old new → SetsEventEnable supported (undo_event_enable op old) new old
undoes_events supported op old new v s = record {
  is_value = v.is_value;
  messages = refl;
  scanning = refl;
  events = undone_change supported op.change (enabled_in old) (enabled_in new) s.events;
}

-- ---- the kind

pub kind_laws : KindLaws words
kind_laws = record {
  set_short = λ op. omega arith;
  invertible = λ op reply. some_where (length reply == 5) (undo_event_enable op reply) _ (λ is. (tested_same _ _ is, tt)) (λ h. same_tested _ _ h.0);
  plain = λ op made reply is. tt;
}

pub record_laws : (supported : ℕ) → RecordLaws words (record_words supported)
record_laws supported = record {
  one_proof = IsEventEnable-prop supported;
  taken = λ op old new done. tt;
  decides = λ op value. decided supported op value (is_accepted supported op.change) refl;
  refuses = λ op value code is. refused (value_after op value) code (is_accepted supported op.change) is;
  determined = determined supported;
  keeps = keeps_events supported;
  fits = λ op old new done. ap (is_length (key.EventEnable op.sensor)) done.is_value.five;
  replies = λ op value live here is_valid. is_valid.is_value.five;
  get_short = λ sensor value live here is_valid. let five : length value ≡ 5 = is_valid.is_value.five in omega arith;
  steady = λ value live other. refl;
  tells = λ value other live is_valid is_other same. same;
  same_record = λ op made value live here is_valid is. ap (λ (o : SetEventEnable). o.sensor) (sym (made_where (length value == 5) (undo_event_enable op value) made is).1);
  undoes = λ op made old new live is_valid done is.
      subst (λ (o : SetEventEnable). SetsEventEnable supported o new old) (made_where (length old == 5) (undo_event_enable op old) made is).1 (undoes_events supported op old new is_valid done);
}
