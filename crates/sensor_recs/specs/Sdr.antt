-- The repository of sensor data records (IPMI 2.0, "SDR Repository"): a list of records that stays, and its reservations.
use Rattle.std.specs.Prelude.{ℕ, ◌+◌, ◌-◌, ◌==◌, List, length, Option, Some, None, if◌then◌else◌}
use Rattle.std.specs.List.{slice_get, position_or_len}
use Rattle.sel_log.specs.declared.reservations.Reservations.{Reservations}
use Rattle.sel_log.specs.Reservations.{no_reservation}
use Rattle.record_base.specs.Sdr.{sdr_id}

pub record Repository : Type 0 where
  pub records : List (List ℕ)
  pub reservations : Reservations

-- a repository of these records, of which nobody has a reservation yet
abbrev pub repository_of : List (List ℕ) → Repository
repository_of records = record { records = records; reservations = no_reservation }

-- the place of the record that this number asks for: 0000h asks for the first record, and FFFFh for the last
abbrev pub place_for : List (List ℕ) → ℕ → ℕ
place_for records number =
    if number == 0x0000 then 0
    else (if number == 0xFFFF then length records - 1 else position_or_len (λ bytes. sdr_id bytes == number) records)

-- the record that this number asks for
abbrev pub asked_for : List (List ℕ) → ℕ → Option (List ℕ)
asked_for records number = slice_get records (place_for records number)

-- a record's id, and FFFFh behind the last record
abbrev pub id_or_none : Option (List ℕ) → ℕ
id_or_none (Some bytes) = sdr_id bytes
id_or_none None = 0xFFFF

-- the id of the record behind the record that this number asks for, FFFFh behind the last record
abbrev pub id_behind : List (List ℕ) → ℕ → ℕ
id_behind records number = id_or_none (slice_get records (place_for records number + 1))
