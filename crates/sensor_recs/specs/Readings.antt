-- Readings of a sensor, and the events that they make (IPMI 2.0: Get Sensor Reading, and the event offsets of sensors with thresholds).
-- The thresholds stand at places 0 to 5: lower non-critical, lower critical, lower non-recoverable, upper non-critical, upper critical,
-- upper non-recoverable. A list says for each threshold whether the last reading was beyond the threshold.
use Rattle.std.specs.Prelude.{ℕ, zero, suc, ◌+◌, ◌*◌, List, [], ◌∷◌, ◌++◌, get_or, slice_index, Bool, true, false, not, ◌&&◌, nat_le, nat_lt, if◌then◌else◌}
use Rattle.std.specs.List.{filter}
use Rattle.record_base.specs.Masks.{has}
use Rattle.record_base.specs.Sensor.Thresholds.{is_there}
use Rattle.record_base.specs.declared.hysteresis.Hysteresis.{Hysteresis}
use Rattle.sensor_recs.specs.declared.comparator.Comparator.{Comparator}
use Rattle.sensor_recs.specs.declared.comparator.Event.{Event}

-- ---- one threshold

abbrev pub is_upper : ℕ → Bool
is_upper place = nat_le 3 place

-- the reading is at the threshold or beyond it
abbrev pub reaches : ℕ → ℕ → ℕ → Bool
reaches place threshold reading = if is_upper place then nat_le threshold reading else nat_le reading threshold

-- the reading has come back from the threshold by more than the hysteresis
abbrev pub comes_back : ℕ → Hysteresis → ℕ → ℕ → Bool
comes_back place hysteresis threshold reading =
    if is_upper place then nat_lt (reading + hysteresis.positive) threshold else nat_lt (threshold + hysteresis.negative) reading

-- the reading crosses the threshold at the place, where the last reading was beyond the threshold or not
abbrev pub crosses : Comparator → ℕ → Bool → ℕ → Bool
crosses compared place was reading =
    is_there compared.masks place
    && (if was then comes_back place compared.hysteresis (slice_index compared.thresholds place) reading else reaches place (slice_index compared.thresholds place) reading)

-- a crossing changes whether the reading is beyond the threshold
abbrev pub is_beyond : Comparator → ℕ → Bool → ℕ → Bool
is_beyond compared place was reading = if crosses compared place was reading then not was else was

-- whether the last reading was beyond the threshold at the place
abbrev pub was_beyond : List Bool → ℕ → Bool
was_beyond beyond place = get_or beyond place false

-- for each threshold, whether the reading is beyond the threshold
abbrev pub beyond_at : Comparator → List Bool → ℕ → ℕ → Bool
beyond_at compared beyond reading place = is_beyond compared place (was_beyond beyond place) reading

abbrev pub beyond_after : Comparator → List Bool → ℕ → List Bool
beyond_after compared beyond reading =
    beyond_at compared beyond reading 0 ∷ beyond_at compared beyond reading 1 ∷ beyond_at compared beyond reading 2
    ∷ beyond_at compared beyond reading 3 ∷ beyond_at compared beyond reading 4 ∷ beyond_at compared beyond reading 5 ∷ []

-- ---- events

-- a crossing goes high where it goes beyond an upper threshold, or comes back from a lower one, and low otherwise
abbrev pub goes_high : ℕ → Bool → Bool
goes_high place was = if was then not (is_upper place) else is_upper place

-- the offset of an event: two for each threshold, going low and going high
abbrev pub offset_of : Event → ℕ
offset_of event = 2 * event.place + (if event.high then 1 else 0)

abbrev pub is_same : Bool → Bool → Bool
is_same first second = if first then second else not second

-- a crossing asserts the event of the crossing's direction, and deasserts the event of the other direction
abbrev pub happens : Comparator → List Bool → ℕ → Event → Bool
happens compared beyond reading event =
    crosses compared event.place (was_beyond beyond event.place) reading
    && is_same event.high (if event.deasserted then not (goes_high event.place (was_beyond beyond event.place)) else goes_high event.place (was_beyond beyond event.place))

-- an event counts where the sensor makes messages, and its offset is in the mask of assertions or of deassertions
abbrev pub counts : Comparator → Event → Bool
counts compared event = compared.messages && has (if event.deasserted then compared.enabled.deassertions else compared.enabled.assertions) (offset_of event)

abbrev pub is_made : Comparator → List Bool → ℕ → Event → Bool
is_made compared beyond reading event = happens compared beyond reading event && counts compared event

-- the possible events of a threshold, the assertions first
abbrev pub events_at : ℕ → List Event
events_at place =
    record { place = place; high = false; deasserted = false }
    ∷ record { place = place; high = true; deasserted = false }
    ∷ record { place = place; high = false; deasserted = true }
    ∷ record { place = place; high = true; deasserted = true } ∷ []

-- the possible events of the thresholds before a place, threshold by threshold
abbrev pub events_below : ℕ → List Event
events_below zero = []
events_below (suc place) = events_below place ++ events_at place

-- the events that the reading makes, among the possible events
abbrev pub events_of : Comparator → List Bool → ℕ → List Event
events_of compared beyond reading = filter (is_made compared beyond reading) (events_below 6)
