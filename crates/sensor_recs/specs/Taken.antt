-- The last reading of each sensor (IPMI 2.0, Get Sensor Reading), and the thresholds that it was beyond.
use Rattle.std.specs.Prelude.{ℕ, ◌+◌, ◌*◌, List, [], ◌∷◌, get_or, set, replicate, slice_index, Bool, false, Option, Some, None, is_none, if◌then◌else◌, refl}
use Rattle.two_wire.specs.Places.{controller_wire}
use Rattle.record_base.specs.Requests.{bytes_at}
use Rattle.record_base.specs.Sensor.EventEnable.{flags_byte, makes_messages, is_scanning, enabled_in}
use Rattle.record_base.specs.declared.threshold_masks.ThresholdMasks.{ThresholdMasks}
use Rattle.sensor_recs.specs.declared.comparator.Comparator.{Comparator}
use Rattle.sensor_recs.specs.declared.comparator.Event.{Event}
use Rattle.sensor_recs.specs.declared.comparator.LastReading.{LastReading}
use Rattle.sensor_recs.specs.Readings.{offset_of, beyond_after}

-- the last reading of each sensor, at the place of its number, if the sensor has a reading
abbrev pub LastReadings : Type 0
LastReadings = List (Option LastReading)

-- no sensor has a reading, for each number that a byte can be
abbrev pub none_taken : LastReadings
none_taken = replicate 256 None

-- the last reading of the sensor
abbrev pub last_of : LastReadings → ℕ → Option LastReading
last_of readings sensor = get_or readings sensor None

-- the last readings, after this reading of the sensor
abbrev pub with_reading : LastReadings → ℕ → LastReading → LastReadings
with_reading readings sensor taken = set readings sensor (Some taken)

-- for each threshold, whether the last reading was beyond the threshold. Before the first reading, none is beyond a threshold.
abbrev pub last_beyond : Option LastReading → List Bool
last_beyond (Some taken) = taken.beyond
last_beyond None = false ∷ false ∷ false ∷ false ∷ false ∷ false ∷ []

-- the new last reading
abbrev pub taken_after : Comparator → Option LastReading → ℕ → LastReading
taken_after compared last reading = record { raw = reading; beyond = beyond_after compared (last_beyond last) reading; six = refl }

-- the comparison for the readings of a sensor, from its masks and from the values of its records
abbrev pub compared_of : ThresholdMasks → List ℕ → List ℕ → List ℕ → Comparator
compared_of masks thresholds hysteresis events = record {
  masks = masks;
  thresholds = bytes_at 6 thresholds 0;
  hysteresis = record { positive = slice_index hysteresis 0; negative = slice_index hysteresis 1 };
  messages = makes_messages (slice_index events 0);
  enabled = enabled_in events;
  six = refl;
}

-- ---- Get Sensor Reading

-- the mask of the places that have true: bit i for place i
abbrev pub mask_of : List Bool → ℕ
mask_of [] = 0
mask_of (bit ∷ rest) = (if bit then 1 else 0) + 2 * mask_of rest

-- the last reading; 00h before the first
abbrev pub raw_in : Option LastReading → ℕ
raw_in (Some taken) = taken.raw
raw_in None = 0

-- the reply: the reading; in bits 7 and 6 whether the sensor makes messages and is scanning, in bit 5 whether there is no reading yet; and
-- a bit for each threshold that the reading is beyond, under bits 7 and 6, which are reserved and 1
abbrev pub reading_data : List ℕ → Option LastReading → List ℕ
reading_data events last =
    raw_in last
    ∷ (flags_byte (makes_messages (slice_index events 0)) (is_scanning (slice_index events 0)) + (if is_none last then 32 else 0))
    ∷ (0xC0 + mask_of (last_beyond last)) ∷ []

-- ---- the System Event Log

-- the record of an event that a reading of the sensor makes. The log puts in the record's id and time. The record is a system event (02h) of the
-- controller (its address, channel 0), in the format of IPMI 2.0 (04h), of the sensor's type and number, of the generic type of thresholds (01h, with
-- bit 7 where the event is deasserted), with the offset, the reading and the threshold.
abbrev pub log_record : ℕ → ℕ → Comparator → ℕ → Event → List ℕ
log_record sensor_type sensor compared reading event =
    0 ∷ 0 ∷ 0x02 ∷ 0 ∷ 0 ∷ 0 ∷ 0 ∷ controller_wire ∷ 0x00 ∷ 0x04 ∷ sensor_type ∷ sensor ∷ (if event.deasserted then 0x81 else 0x01)
    ∷ (0x50 + offset_of event) ∷ reading ∷ slice_index compared.thresholds event.place ∷ []
