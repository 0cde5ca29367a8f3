-- What the Gets of a sensor's records show behind an operation (IPMI 2.0).
use Rattle.std.specs.Prelude.{ℕ, ◌+◌, ◌%◌, List, ◌∷◌, drop, slice_index}
use Rattle.record_base.specs.declared.event_enable.SetEventEnable.{SetEventEnable}
use Rattle.record_base.specs.declared.hysteresis.SetHysteresis.{SetHysteresis}
use Rattle.record_base.specs.declared.thresholds.SetThresholds.{SetThresholds}
use Rattle.record_base.specs.Sensor.EventEnable.{flags_byte}
use Rattle.sensor_recs.specs.EventEnable.{value_after}
use Rattle.sensor_recs.specs.Hysteresis.{both_bytes}
use Rattle.sensor_recs.specs.Thresholds.{choose, zeros}

-- The first byte says which thresholds can be read. Those of the operation's mask become the operation's, or 00h where they can't be read.
abbrev pub after_thresholds : SetThresholds → List ℕ → List ℕ
after_thresholds op shown = slice_index shown 0 ∷ choose op.mask (choose (slice_index shown 0) op.values zeros) (drop 1 shown)

-- both bytes become the operation's
abbrev pub after_hysteresis : SetHysteresis → List ℕ → List ℕ
after_hysteresis op shown = both_bytes op

-- the flags become the operation's, in front of bits 5:0 of their byte, and the enabled events change as it says
abbrev pub after_event_enable : SetEventEnable → List ℕ → List ℕ
after_event_enable op shown = (flags_byte op.messages op.scanning + slice_index shown 0 % 64) ∷ drop 1 (value_after op shown)
