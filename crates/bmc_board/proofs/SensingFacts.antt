-- What a reading that is taken leaves, from what each of its steps makes.
use Rattle.std.proofs.Common.{◌≡◌, ℕ, List, Bool, true, false, map, Option, Some, None, if◌then◌else◌, refl, ap, sym, ◌∙◌}
use Rattle.record_base.specs.Sensor.EventEnable.{is_scanning}
use Rattle.record_base.specs.Requests.{byte_at}
use Rattle.cfg_records.specs.declared.board_file.BoardFile.{BoardFile}
use Rattle.cfg_records.specs.Records.{Records}
use Rattle.record_base.specs.declared.key.Key.TheVariants as key
use Rattle.record_base.specs.declared.sensor.Sensor.{Sensor}
use Rattle.sel_log.specs.Log.{Log}
use Rattle.sensor_recs.specs.declared.comparator.Comparator.{Comparator}
use Rattle.sensor_recs.specs.declared.comparator.Event.{Event}
use Rattle.sensor_recs.specs.declared.comparator.LastReading.{LastReading}
use Rattle.sensor_recs.specs.Readings.{events_of}
use Rattle.sensor_recs.specs.Taken.{LastReadings, last_of, with_reading, last_beyond, taken_after, log_record}
use Rattle.record_kinds.specs.Boards.{sensor_at}
use Rattle.bmc_board.specs.declared.activity.Activity.{Activity}
use Rattle.bmc_board.specs.declared.bench.Bench.{Bench}
use Rattle.bmc_board.specs.declared.bench.Bench.TheVariants.{Reading, Tick, Chassis}
use Rattle.bmc_board.specs.State.{State, state, on_bench}
use Rattle.bmc_board.specs.Sensing.{value_at, compared_at, logs, after_all, log_after, after_taking, after_reading, reads, bench_of}

-- of two, the one that a test picks
picked : {A : Type 0} (b : Bool) (x y : A) → b ≡ true → (if b then x else y) ≡ x
picked b x y is = ap (λ (t : Bool). if t then x else y) is

left_out : {A : Type 0} (b : Bool) (x y : A) → b ≡ false → (if b then x else y) ≡ y
left_out b x y is = ap (λ (t : Bool). if t then x else y) is

module _ (records : Records) (sensor : Sensor) where
  -- where events go into the log, each is added
  pub logged : (s : Comparator) (last : Option LastReading) (reading : ℕ) (before after : Log) (events : List Event) → logs records ≡ true
      → after ≡ after_all before (map (log_record sensor.sensor_type sensor.number s reading) events) → events ≡ events_of s (last_beyond last) reading
      → after ≡ log_after records sensor s last reading before
  logged s last reading before after events on is made =
      is ∙ ap (λ (es : List Event). after_all before (map (log_record sensor.sensor_type sensor.number s reading) es)) made ∙ sym (picked (logs records) _ _ on)

  -- else the log stays
  pub not_logged : (s : Comparator) (last : Option LastReading) (reading : ℕ) (before : Log) → logs records ≡ false → before ≡ log_after records sensor s last reading before
  not_logged s last reading before off = sym (left_out (logs records) _ _ off)

  -- a reading that is taken, by what it was compared with and by the last one
  abbrev taking : Comparator → Option LastReading → ℕ → Activity → Activity
  taking s last reading before = record before {
    readings = with_reading before.readings sensor.number (taken_after s last reading);
    log = log_after records sensor s last reading before.log;
  }

  pub takes : (s : Comparator) (last : Option LastReading) (reading : ℕ) (before : Activity) (readings : LastReadings) (log : Log)
      → is_scanning (byte_at (value_at records (key.EventEnable sensor.number)) 0) ≡ true → s ≡ compared_at records sensor → last ≡ last_of before.readings sensor.number
      → readings ≡ with_reading before.readings sensor.number (taken_after s last reading) → log ≡ log_after records sensor s last reading before.log
      → record before { readings = readings; log = log } ≡ after_reading records sensor reading before
  takes s last reading before readings log scans same at put adds =
      ap (λ (r : LastReadings). record before { readings = r; log = log }) put
      ∙ ap (λ (l : Log). record before { readings = with_reading before.readings sensor.number (taken_after s last reading); log = l }) adds
      ∙ ap (λ (c : Comparator). taking c last reading before) same
      ∙ ap (λ (o : Option LastReading). taking (compared_at records sensor) o reading before) at
      ∙ sym (picked (is_scanning (byte_at (value_at records (key.EventEnable sensor.number)) 0)) _ _ scans)

-- What happens on the bench leaves what is staged. So the state after it is the one before it, with its activity then.
pub benched_so : (setup : BoardFile) (before : State) (event : Bench) → on_bench before (bench_of setup before event).1.activity ≡ (bench_of setup before event).1
benched_so setup before (Reading number reading) = by (sensor_at setup.sensors.items number)
  where
    taken : (sensor : Sensor) (scans : Bool)
        → let after = (if scans then after_taking before.records sensor (compared_at before.records sensor) reading before.activity else before.activity) in on_bench before after ≡ state before.records after
    taken sensor true = refl
    taken sensor false = refl

    by : (found : Option Sensor) → let after = (reads setup before.records found reading before.activity).1 in on_bench before after ≡ state before.records after
    by None = refl
    by (Some sensor) = taken sensor (is_scanning (byte_at (value_at before.records (key.EventEnable sensor.number)) 0))
benched_so setup before Tick = refl
benched_so setup before (Chassis bits) = refl
