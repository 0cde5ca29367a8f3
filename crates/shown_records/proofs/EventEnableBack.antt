-- What enables the events of a sensor that its Get shows as enabled.
use Rattle.std.proofs.Common.{◌≡◌, ℕ, ◌<◌, min, bit_and, List, length, Bool, true, false, ◌||◌, ◌==◌, IsTrue, Some, refl, sym, ◌∙◌, ap, subst, arith, None, if◌then◌else◌}
use Rattle.std.specs.Option.{IsSome, is_some}
use Rattle.std.specs.Int.{bit_at}
use Rattle.std.proofs.lemmas.Nat.Bits.{bit_at_and, bit_at_ones, bit_at-lt}
use Rattle.record_base.specs.declared.event_enable.SetEventEnable.{SetEventEnable}
use Rattle.record_base.specs.InverseLaws.{made_where}
use Rattle.record_base.specs.Masks.{has}
use Rattle.record_base.specs.Sensor.EventEnable.{AreWithin, IsEventEnable}
use Rattle.sensor_recs.specs.EventEnable.{IsUnion, SetsEventEnable, undo_event_enable, words, record_words}
use Rattle.sensor_recs.specs.EventEnableLaws.{record_laws}
use Rattle.shown_records.specs.Probes.{probe_events}
use Rattle.shown_records.specs.AsItIs.{NoOthers}
use Rattle.shown_records.proofs.SetBack.{IsSetBack}

one_min : (b : ℕ) → b < 2 → min 1 b ≡ b
one_min b small = omega arith

-- of all events those of a set are the set's
has_all : (n offset : ℕ) → offset < 16 → has (bit_and 0xFFFF n) offset ≡ has n offset
has_all n offset lt =
    ap (λ (b : ℕ). b == 1) (bit_at_and 0xFFFF n offset ∙ ap (λ (b : ℕ). min b (bit_at n offset)) (bit_at_ones 16 offset lt) ∙ one_min (bit_at n offset) (bit_at-lt n offset))

either : (a b : Bool) → (a ≡ true → b ≡ true) → b ≡ (a || b)
either true b within = within refl
either false b within = refl

-- a set with the events of another, of which it has all, is itself
union_is : (old value : ℕ) → AreWithin old value → IsUnion old (bit_and 0xFFFF value) value
union_is old value within offset lt =
    either (has old offset) (has value offset) (within offset lt) ∙ ap (λ (b : Bool). has old offset || b) (sym (has_all value offset lt))

supported_all : (n supported : ℕ) → AreWithin n supported → AreWithin (bit_and 0xFFFF n) supported
supported_all n supported within offset lt there = within offset lt (subst (λ (b : Bool). IsTrue b) (has_all n offset lt) there)

sets_value : (supported sensor : ℕ) (value old : List ℕ) → IsEventEnable supported value → NoOthers value old → SetsEventEnable supported (undo_event_enable (probe_events sensor) value) old value
sets_value supported sensor value old is_valid within = record {
  is_value = is_valid.is_value;
  messages = refl;
  scanning = refl;
  events = (
    record { assertions = supported_all _ supported is_valid.assertions; deassertions = supported_all _ supported is_valid.deassertions },
    union_is _ _ within.0,
    union_is _ _ within.1,
  );
}

back : (supported sensor : ℕ) (op : SetEventEnable) (value old new : List ℕ) → IsEventEnable supported value → NoOthers value old → words.inverse (probe_events sensor) value ≡ Some op
    → SetsEventEnable supported op old new → new ≡ value
back supported sensor op value old new is_valid within is done =
    let same = (made_where (length value == 5) (undo_event_enable (probe_events sensor) value) op is).1 in
    (record_laws supported).determined op old new value done (subst (λ (o : SetEventEnable). SetsEventEnable supported o old value) same (sets_value supported sensor value old is_valid within))

again : (sensor : ℕ) (op : SetEventEnable) (value : List ℕ) → words.inverse (probe_events sensor) value ≡ Some op → IsSome (words.inverse op value)
again sensor op value is =
    ap (λ b. is_some (if b then Some (undo_event_enable op value) else None)) (made_where (length value == 5) (undo_event_enable (probe_events sensor) value) op is).0

pub set_back : (supported : ℕ) → IsSetBack words (record_words supported) (λ sensor shown. probe_events sensor) (λ sensor. NoOthers)
set_back supported = record {
  again = λ sensor op value live. again sensor op value;
  back = λ sensor op value old new live is_valid whole. back supported sensor op value old new is_valid whole;
}
