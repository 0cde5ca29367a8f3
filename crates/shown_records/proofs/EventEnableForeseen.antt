-- What is foreseen of the enabled events of a sensor.
use Rattle.std.proofs.Common.{◌≡◌, ℕ, ◌+◌, ◌%◌, List, ◌∷◌, drop, slice_index, Bool, true, false, refl, ◌∙◌, ap, arith}
use Rattle.two_wire.specs.Codes.{invalid_data_field}
use Rattle.record_base.specs.declared.event_enable.SetEventEnable.{SetEventEnable}
use Rattle.record_base.specs.Sensor.EventEnable.{flags_byte, makes_messages, is_scanning, IsEventEnable}
use Rattle.sensor_recs.specs.EventEnable.{SetsEventEnable, is_accepted, value_after, words, record_words}
use Rattle.sensor_recs.specs.EventEnableLaws.{record_laws}
use Rattle.shown_records.specs.Sensors.{after_event_enable}
use Rattle.shown_records.proofs.Foreseen.{IsForeseen, made_only, whole_foreseen}

new_is : (supported : ℕ) (op : SetEventEnable) (old new : List ℕ) → SetsEventEnable supported op old new → new ≡ value_after op old
new_is supported op old new done =
    made_only (is_accepted supported op.change) (value_after op old) invalid_data_field (SetsEventEnable supported op old) new ((record_laws supported).decides op old) ((record_laws supported).determined op old) done

-- the flags have 0 in the six bits behind them
no_others : (messages scanning : Bool) → flags_byte messages scanning % 64 ≡ 0
no_others true true = refl
no_others true false = refl
no_others false true = refl
no_others false false = refl

foresees : (supported : ℕ) (op : SetEventEnable) (old new : List ℕ) → IsEventEnable supported old → SetsEventEnable supported op old new → new ≡ after_event_enable op old
foresees supported op old new is_valid done =
    let flags : slice_index old 0 ≡ flags_byte (makes_messages (slice_index old 0)) (is_scanning (slice_index old 0)) = is_valid.is_value.flags in
    let none : slice_index old 0 % 64 ≡ 0 = ap (λ (n : ℕ). n % 64) flags ∙ no_others (makes_messages (slice_index old 0)) (is_scanning (slice_index old 0)) in
    let same : flags_byte op.messages op.scanning ≡ flags_byte op.messages op.scanning + slice_index old 0 % 64 = omega (arith, none) in
    new_is supported op old new done ∙ ap (λ (n : ℕ). n ∷ drop 1 (value_after op old)) same

pub foreseen : (supported : ℕ) → IsForeseen words (record_words supported) after_event_enable
foreseen supported = whole_foreseen words (record_words supported) after_event_enable (record_laws supported) (λ value. refl) (λ op old new live. foresees supported op old new)
