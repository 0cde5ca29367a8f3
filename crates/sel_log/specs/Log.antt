-- The System Event Log (IPMI 2.0): a list of records with a capacity.
use Rattle.std.specs.Prelude.{ℕ, ◌+◌, ◌-◌, ◌*◌, ◌==◌, ◌≤◌, nat_le, Bool, true, false, List, [], ◌∷◌, ◌++◌, length, Option, is_some, Result, Ok, Err, if◌then◌else◌}
use Rattle.std.specs.List.{find, slice_get}
use Rattle.two_wire.specs.Codes.{out_of_space, reservation_canceled}
use Rattle.two_wire.specs.LogSize.{least_log_records, most_log_records}
use Rattle.sel_log.specs.declared.clock.Clock.{Clock}
use Rattle.sel_log.specs.declared.reservations.Reservations.{Reservations}
use Rattle.sel_log.specs.declared.info.Info.{Info}
use Rattle.sel_log.specs.Clock.{clock_at}
use Rattle.sel_log.specs.Reservations.{no_reservation, is_present}
use Rattle.sel_log.specs.LogRecord.{record_size, id_of, kept}

-- a log: its records, the oldest first, how many it can have, and what else it keeps
pub record Log : Type 0 where
  pub capacity : ℕ
  pub records : List (List ℕ)
  -- whether a record was refused since the log was cleared
  pub overflow : Bool
  -- the seconds at which the last record was added, and the log was last cleared
  pub last_add : ℕ
  pub last_clear : ℕ
  pub reservations : Reservations
  pub clock : Clock

-- a log can have so many records
pub record IsCapacity (capacity : ℕ) : Type 0 where
  pub least : least_log_records ≤ capacity
  pub most : capacity ≤ most_log_records

-- a new log
abbrev pub new_log : ℕ → Log
new_log capacity = record {
  capacity = capacity;
  records = [];
  overflow = false;
  last_add = 0;
  last_clear = 0;
  reservations = no_reservation;
  clock = clock_at 0;
}

-- whether there is no room for another record
abbrev pub is_full : Log → Bool
is_full log = nat_le log.capacity (length log.records)

-- the id of the next record: ids count from 0001h, and start again once the log is cleared
abbrev pub next_id : Log → ℕ
next_id log = length log.records + 1

-- what an add answers: the record's id
abbrev pub add_answer : Log → Result ℕ ℕ
add_answer log = if is_full log then Err out_of_space else Ok (next_id log)

-- the log after an add: the record comes behind the others; a full log keeps its records, and says that it overflowed
abbrev pub after_add : Log → List ℕ → Log
after_add log given =
    if is_full log then record log { overflow = true }
    else record log { records = log.records ++ kept (next_id log) log.clock.seconds given ∷ []; last_add = log.clock.seconds }

-- the record that has the id
abbrev pub with_id : List (List ℕ) → ℕ → Option (List ℕ)
with_id records id = find (λ r. id_of r == id) records

-- the record that is asked for by this number: 0000h stands for the first and FFFFh for the last
abbrev pub asked_for : List (List ℕ) → ℕ → Option (List ℕ)
asked_for records number =
    if number == 0x0000 then slice_get records 0
    else (if number == 0xFFFF then slice_get records (length records - 1) else with_id records number)

-- the id of the record behind the one with this id, FFFFh behind the last
abbrev pub id_behind : List (List ℕ) → ℕ → ℕ
id_behind records id = if is_some (with_id records (id + 1)) then id + 1 else 0xFFFF

-- what a clear answers: the reservation must be the present one
abbrev pub clear_answer : Log → ℕ → Result (Unit {0}) ℕ
clear_answer log reservation = if is_present log.reservations reservation then Ok tt else Err reservation_canceled

-- the log after it: no records, no overflow, no reservation
abbrev pub after_clear : Log → ℕ → Log
after_clear log reservation =
    if is_present log.reservations reservation
    then record log { records = []; overflow = false; last_clear = log.clock.seconds; reservations = record log.reservations { present = 0 } }
    else log

-- what Get SEL Info tells: each free place has the bytes of a record
abbrev pub info_of : Log → Info
info_of log = record {
  count = length log.records;
  free_bytes = record_size * (log.capacity - length log.records);
  last_add = log.last_add;
  last_clear = log.last_clear;
  overflow = log.overflow;
}
