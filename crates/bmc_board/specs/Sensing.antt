-- Readings of a board's sensors, and what happens on the board beside requests (IPMI 2.0, "Get Sensor Reading", "Watchdog Timer").
use Rattle.std.specs.Prelude.{◌≡◌, ℕ, List, map, fold, Bool, Option, Some, None, Result, Ok, Err, if◌then◌else◌}
use Rattle.record_base.specs.Masks.{has}
use Rattle.record_base.specs.Sensor.EventEnable.{is_scanning}
use Rattle.record_base.specs.Requests.{byte_at}
use Rattle.cfg_records.specs.Records.{Records}
use Rattle.record_base.specs.declared.key.Key.TheVariants as key
use Rattle.record_base.specs.declared.sensor.Sensor.{Sensor}
use Rattle.record_base.specs.declared.message.Answered.{Answered}
use Rattle.cfg_records.specs.declared.board_file.BoardFile.{BoardFile}
use Rattle.sel_log.specs.Clock.{ticked}
use Rattle.sel_log.specs.Log.{Log, after_add}
use Rattle.sensor_recs.specs.declared.comparator.Comparator.{Comparator}
use Rattle.sensor_recs.specs.declared.comparator.LastReading.{LastReading}
use Rattle.sensor_recs.specs.declared.comparator.Event.{Event}
use Rattle.sensor_recs.specs.Readings.{events_of}
use Rattle.sensor_recs.specs.Taken.{last_of, with_reading, last_beyond, taken_after, compared_of, reading_data, log_record}
use Rattle.watch_boot.specs.Watchdog.{live_after_tick}
use Rattle.record_kinds.specs.Boards.{sensor_at}
pub use Rattle.bmc_board.specs.RecordBytes.{bytes_of, value_at}
use Rattle.bmc_board.specs.declared.activity.Activity.{Activity}
use Rattle.bmc_board.specs.declared.bench.Bench.{Bench}
use Rattle.bmc_board.specs.declared.bench.Bench.TheVariants.{Reading, Tick, Chassis}
use Rattle.bmc_board.specs.declared.bench.NoSensor.{NoSensor}
use Rattle.bmc_board.specs.Replies.{done, refused, unknown_code}
use Rattle.bmc_board.specs.State.{State, state}

-- ---- Get Sensor Reading

abbrev pub reading_of : Option Sensor → ℕ → List ℕ → Option LastReading → Answered
reading_of (Some sensor) unknown events last = done (reading_data events last)
reading_of None unknown events last = refused unknown

-- the last reading of the sensor of this number
abbrev pub reading_answer : BoardFile → Records → Activity → ℕ → Answered
reading_answer setup records before number =
    reading_of (sensor_at setup.sensors.items number) (unknown_code setup (key.EventEnable number)) (value_at records (key.EventEnable number)) (last_of before.readings number)

-- ---- a reading

-- what the sensor's readings are compared with
abbrev pub compared_at : Records → Sensor → Comparator
compared_at records sensor =
    compared_of sensor.thresholds.masks (value_at records (key.Thresholds sensor.number)) (value_at records (key.Hysteresis sensor.number)) (value_at records (key.EventEnable sensor.number))

-- whether events go into the log, by the global enables
abbrev pub logs : Records → Bool
logs records = has (byte_at (value_at records key.GlobalEnables) 0) 3

-- the log, once these records were added one after the other
abbrev pub after_all : Log → List (List ℕ) → Log
after_all log records = fold after_add log records

-- the log, once each of these events that a reading of the sensor makes was added to it
abbrev pub after_events : Sensor → Comparator → ℕ → List Event → Log → Log
after_events sensor s reading events log = after_all log (map (log_record sensor.sensor_type sensor.number s reading) events)

-- the log after a reading of the sensor: each event that the reading makes is added in order, where events go into the log
abbrev pub log_after : Records → Sensor → Comparator → Option LastReading → ℕ → Log → Log
log_after records sensor s last reading log =
    if logs records then after_events sensor s reading (events_of s (last_beyond last) reading) log else log

-- what a reading that is taken leaves
abbrev pub after_taking : Records → Sensor → Comparator → ℕ → Activity → Activity
after_taking records sensor s reading before = record before {
  readings = with_reading before.readings sensor.number (taken_after s (last_of before.readings sensor.number) reading);
  log = log_after records sensor s (last_of before.readings sensor.number) reading before.log;
}

-- a reading is taken only while the sensor scans
abbrev pub after_reading : Records → Sensor → ℕ → Activity → Activity
after_reading records sensor reading before =
    if is_scanning (byte_at (value_at records (key.EventEnable sensor.number)) 0) then after_taking records sensor (compared_at records sensor) reading before else before

-- ---- a tick

-- a tenth of a second later: the clock has ticked, and the watchdog timer
abbrev pub after_tick : Records → Activity → Activity
after_tick records before = record before {
  live = live_after_tick (value_at records key.Watchdog) before.live;
  log = record before.log { clock = ticked before.log.clock };
}

-- ---- what happens

-- an answer to the bench, with the activity after it
abbrev pub BenchResult : Type 0
BenchResult = Result (Unit {0}) NoSensor × Activity

abbrev pub reads : BoardFile → Records → Option Sensor → ℕ → Activity → BenchResult
reads setup records (Some sensor) reading before = (Ok tt, after_reading records sensor reading before)
reads setup records None reading before = (Err (record {}), before)

abbrev pub happens : BoardFile → Records → Activity → Bench → BenchResult
happens setup records before (Reading number reading) = reads setup records (sensor_at setup.sensors.items number) reading before
happens setup records before Tick = (Ok tt, after_tick records before)
happens setup records before (Chassis bits) = (Ok tt, record before { live = record before.live { chassis = bits } })

-- the answer to a bench event and the state after it: the records stay
abbrev pub bench_of : BoardFile → State → Bench → Result (Unit {0}) NoSensor × State
bench_of setup before event =
    let (answer, after) = happens setup before.records before.activity event in (answer, state before.records after)

-- the event is a reading of a sensor that isn't there
abbrev pub NamesNoSensor : BoardFile → Bench → Type 0
NamesNoSensor setup (Reading number reading) = sensor_at setup.sensors.items number ≡ None
NamesNoSensor setup Tick = ⊥
NamesNoSensor setup (Chassis bits) = ⊥
