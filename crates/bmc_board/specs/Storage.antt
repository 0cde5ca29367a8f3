-- The repository of sensor data records and the System Event Log, by their commands (IPMI 2.0, "SDR Repository" and "System Event Log").
-- Numbers have their lowest byte first.
use Rattle.std.specs.Prelude.{ℕ, ◌+◌, ◌-◌, ◌*◌, ◌==◌, ◌&&◌, not, nat_lt, min, List, [], ◌∷◌, ◌++◌, length, take, drop, Bool, Option, Some, None, Result, Ok, Err, if◌then◌else◌}
use Rattle.std.specs.Int.{w16, w32, to_le_bytes, from_le_bytes}
use Rattle.two_wire.specs.Codes.{not_present, reservation_canceled, out_of_range, too_many_bytes, invalid_data_field}
use Rattle.record_base.specs.Requests.{byte_at, bytes_at}
use Rattle.record_base.specs.declared.message.Answered.{Answered}
use Rattle.sel_log.specs.declared.info.Info.{Info}
use Rattle.sel_log.specs.LogRecord.{record_size, id_of}
use Rattle.sel_log.specs.Reservations.{is_present}
use Rattle.sel_log.specs.Log as log
use Rattle.sel_log.specs.Log.{Log, add_answer, after_add, after_clear}
use Rattle.sensor_recs.specs.Sdr as sdr
use Rattle.sensor_recs.specs.Sdr.{Repository}
use Rattle.bmc_board.specs.declared.storage.PartAsked.{PartAsked}
use Rattle.bmc_board.specs.Replies.{done, refused}

-- two bytes of a request's data
abbrev pub word_at : List ℕ → ℕ → ℕ
word_at body place = byte_at body place + 256 * byte_at body (place + 1)

-- ---- what is told of both

-- the version of IPMI's commands for records
abbrev pub storage_version : ℕ
storage_version = 0x51

-- Get SDR Repository Info: the version, the number of records, no free space, no time of an addition or a deletion, and that it can be reserved
abbrev pub sdr_info : Repository → List ℕ
sdr_info repository = storage_version ∷ to_le_bytes w16 (length repository.records) ++ (0 ∷ 0 ∷ 0 ∷ 0 ∷ 0 ∷ 0 ∷ 0 ∷ 0 ∷ 0 ∷ 0 ∷ 0x02 ∷ [])

-- Get SEL Info: the version, the number of records, the free bytes, the times of the last addition and of the last clear, and that it can be
-- reserved, with bit 7 where a record was refused
abbrev pub sel_info : Info → List ℕ
sel_info info =
    storage_version ∷ to_le_bytes w16 info.count ++ (to_le_bytes w16 info.free_bytes ++ (to_le_bytes w32 info.last_add ++ (to_le_bytes w32 info.last_clear
    ++ ((if info.overflow then 0x82 else 0x02) ∷ []))))

-- ---- Get SDR and Get SEL Entry

-- the part of a record that is asked for: the reservation, the record, where it begins, and how many bytes
abbrev pub part_in : List ℕ → PartAsked
part_in body = record { reservation = word_at body 0; id = word_at body 2; offset = byte_at body 4; count = byte_at body 5 }

-- a reply has at most so many bytes of a record
abbrev pub most_shown : ℕ
most_shown = 22

-- of the bytes that are left, those that are asked for: FFh asks for all
abbrev pub part_length : PartAsked → ℕ → ℕ
part_length asked left = if asked.count == 0xFF then left else min asked.count left

-- the part of a record of these bytes, behind the id of the record that follows. Only the whole beginning needs no reservation.
abbrev pub part_of : PartAsked → (reserved : Bool) → List ℕ → ℕ → Answered
part_of asked reserved bytes next =
    if not (asked.offset == 0) && not reserved then refused reservation_canceled
    else (if nat_lt (length bytes) asked.offset then refused out_of_range
    else (if nat_lt most_shown (part_length asked (length bytes - asked.offset)) then refused too_many_bytes
    else done (to_le_bytes w16 next ++ take (part_length asked (length bytes - asked.offset)) (drop asked.offset bytes))))

-- the same where the record may be missing
abbrev pub part_shown : PartAsked → (reserved : Bool) → Option (List ℕ) → ℕ → Answered
part_shown asked reserved (Some bytes) next = part_of asked reserved bytes next
part_shown asked reserved None next = refused not_present

abbrev pub sdr_part : Repository → PartAsked → Answered
sdr_part repository asked =
    part_shown asked (is_present repository.reservations asked.reservation) (sdr.asked_for repository.records asked.id) (sdr.id_behind repository.records asked.id)

-- the id of the log's record behind this one
abbrev pub entry_behind : Log → Option (List ℕ) → ℕ
entry_behind l (Some bytes) = log.id_behind l.records (id_of bytes)
entry_behind l None = 0xFFFF

abbrev pub sel_part : Log → PartAsked → Answered
sel_part l asked =
    part_shown asked (is_present l.reservations asked.reservation) (log.asked_for l.records asked.id) (entry_behind l (log.asked_for l.records asked.id))

-- ---- what changes the log

-- the bytes of a record that is to be added
abbrev pub record_in : List ℕ → List ℕ
record_in body = bytes_at record_size body 0

-- an answer, with the log after it
abbrev pub LogGiven : Type 0
LogGiven = Answered × Log

abbrev pub id_reply : Result ℕ ℕ → Answered
id_reply (Ok id) = done (to_le_bytes w16 id)
id_reply (Err code) = refused code

-- Add SEL Entry: the record's id, or C4h where the log is full
abbrev pub added : Log → List ℕ → LogGiven
added l body = (id_reply (add_answer l), after_add l (record_in body))

-- the bytes 'C', 'L', 'R' behind the reservation
abbrev pub says_clear : List ℕ → Bool
says_clear body = (byte_at body 2 == 0x43) && ((byte_at body 3 == 0x4C) && (byte_at body 4 == 0x52))

-- that all is erased
abbrev pub erased : Answered
erased = done (0x01 ∷ [])

-- Clear SEL: AAh clears the log, and 00h asks whether it is cleared
abbrev pub cleared : Log → List ℕ → LogGiven
cleared l body =
    if not (is_present l.reservations (word_at body 0)) then (refused reservation_canceled, l)
    else (if not (says_clear body) then (refused invalid_data_field, l)
    else (if byte_at body 5 == 0xAA then (erased, after_clear l (word_at body 0))
    else (if byte_at body 5 == 0x00 then (erased, l) else (refused invalid_data_field, l))))

-- the seconds that Set SEL Time gives
abbrev pub time_in : List ℕ → ℕ
time_in body = from_le_bytes w32 (bytes_at 4 body 0)
