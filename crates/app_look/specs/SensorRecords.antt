-- The names of sensors, read in the repository of sensor data records, one record after another (IPMI 2.0, "SDR Device Commands").
use Rattle.std.specs.Prelude.{◌≡◌, ◌≢◌, ◌<◌, ◌⊎◌, ◌&&◌, ℕ, zero, suc, Bool, true, false, List, drop, Option, Some, None, if◌then◌else◌}
use Rattle.std.specs.List.{list_any}
use Rattle.two_wire.specs.Codes.{reservation_canceled}
use Rattle.record_base.specs.Requests.{byte_at}
use Rattle.undo_look.specs.declared.target.TablePart.{TablePart}
use Rattle.undo_look.specs.declared.target.TablePart.TheVariants.{Reservation, SensorRecord}
use Rattle.report_words.specs.declared.sensor_names.SensorHead.{SensorHead}
use Rattle.report_words.specs.declared.table_names.Names.{Names}
use Rattle.report_words.specs.SensorNames.{id_string, sensor_head}
use Rattle.report_words.specs.TableNames.{is_of_number, is_unread, with_name}
use Rattle.app_look.specs.declared.asking.Told.{Told}
use Rattle.app_look.specs.declared.asking.Told.TheVariants as told
use Rattle.app_look.specs.declared.sensors.Walk.{Walk}
use Rattle.app_look.specs.declared.session.Session.{Session}
use Rattle.app_look.specs.Asking.{PartTells, name_count, word_at}

-- how many bytes of a record tell which sensor it is of
abbrev pub head_size : ℕ
head_size = 8

-- the id that stands for no further record
abbrev pub no_record : ℕ
no_record = 0xFFFF

-- how many records are read at most
abbrev pub most_records : ℕ
most_records = 1024

-- how often a part is asked for at most, each time under another reservation
abbrev pub most_reserved : ℕ
most_reserved = 4

-- ---- a reservation

-- its number; a controller that can't reserve the repository takes the number 0
abbrev pub reservation_of : Told → Option ℕ
reservation_of (told.Shown reply) = Some (word_at reply 0)
reservation_of (told.Refused code) = Some 0
reservation_of told.Silent = None

-- the repository was reserved under this number, or the request for that wasn't answered
abbrev pub Reserves : (old : Session) → Option ℕ → (new : Session) → Type 0
Reserves old number new = (told : Told) × PartTells Reservation old told new × (number ≡ reservation_of told)

-- ---- a part of a record

-- where a reading of the repository is: its session, its reservation, and its record
pub record Cursor : Type 0 where
  pub session : Session
  pub walk : Walk

abbrev pub cursor_at : Session → Walk → Cursor
cursor_at session walk = record { session = session; walk = walk }

-- so many bytes of its record from an offset on
abbrev pub part_at : Walk → (offset count : ℕ) → TablePart
part_at walk offset count = SensorRecord walk.reservation walk.id offset count

-- they were asked for, the reservation had been canceled, and another was made
pub record IsReservedAnew (offset count : ℕ) (old new : Cursor) : Type 0 where
  pub between : Session
  pub canceled : PartTells (part_at old.walk offset count) old.session (told.Refused reservation_canceled) between
  pub reserves : Reserves between (Some new.walk.reservation) new.session
  pub same_record : new.walk.id ≡ old.walk.id

-- so many times in a row
abbrev pub AreReservedAnew : (times offset count : ℕ) → (old new : Cursor) → Type 0
AreReservedAnew zero offset count old new = new ≡ old
AreReservedAnew (suc times) offset count old new = (mid : Cursor) × AreReservedAnew times offset count old mid × IsReservedAnew offset count mid new

-- this reply shows the bytes, behind as many reservations
pub record ShowsPart (offset count : ℕ) (old : Cursor) (reply : List ℕ) (new : Cursor) : Type 0 where
  pub times : ℕ
  pub few : times < most_reserved
  pub mid : Cursor
  pub reserved : AreReservedAnew times offset count old mid
  pub shown : PartTells (part_at mid.walk offset count) mid.session (told.Shown reply) new.session
  pub same_walk : new.walk ≡ mid.walk

-- a request was refused for another reason, or wasn't answered
abbrev pub IsLast : Told → Type 0
IsLast (told.Shown reply) = ⊥
IsLast (told.Refused code) = code ≢ reservation_canceled
IsLast told.Silent = Unit {0}

-- the request for the bytes was the last, or that for another reservation
abbrev pub EndsByRequest : (offset count : ℕ) → (mid : Cursor) → (new : Session) → Type 0
EndsByRequest offset count mid new =
    ((told : Told) × PartTells (part_at mid.walk offset count) mid.session told new × IsLast told)
    ⊎ ((between : Session) × PartTells (part_at mid.walk offset count) mid.session (told.Refused reservation_canceled) between × Reserves between None new)

-- no reply shows the bytes: a request was the last, or each reservation was canceled
abbrev pub EndsPart : (offset count : ℕ) → (old : Cursor) → (new : Session) → Type 0
EndsPart offset count old new =
    (times : ℕ) × (mid : Cursor) × AreReservedAnew times offset count old mid
    × (((times ≡ most_reserved) × (new ≡ mid.session)) ⊎ ((times < most_reserved) × EndsByRequest offset count mid new))

-- ---- a record

-- the bytes of a record in a reply, behind the id of the next
abbrev pub record_in : List ℕ → List ℕ
record_in reply = drop 2 reply

-- how many bytes the record has behind the first five
abbrev pub size_in : List ℕ → ℕ
size_in reply = byte_at (record_in reply) 4

-- the sensor's name is wanted, and its record wasn't read
abbrev pub wants_sensor : Names → (number : ℕ) → Bool
wants_sensor names number = list_any (λ sensor. is_of_number number sensor && is_unread sensor) names.sensors.items

-- the record of a sensor wasn't read
abbrev pub wants_sensors : Names → Bool
wants_sensors names = list_any is_unread names.sensors.items

-- what a record's beginning tells of its sensor, where the name is wanted
abbrev pub wanted_of : Names → Option SensorHead → Option SensorHead
wanted_of names (Some head) = if wants_sensor names head.number then Some head else None
wanted_of names None = None

abbrev pub wanted_in : Names → (reply : List ℕ) → Option SensorHead
wanted_in names reply = wanted_of names (sensor_head (record_in reply))

-- the id string of the record is this, or it has none
abbrev pub ReadsIdString : SensorHead → (size : ℕ) → (old : Cursor) → Option (List ℕ) → (new : Cursor) → Type 0
ReadsIdString head size old name new =
    (reply : List ℕ) × ShowsPart head.id_place (name_count size head.id_place) old reply new × (name ≡ id_string (record_in reply))

-- the sensor has this name, and what else is known of names is as it was
abbrev pub HasNameNow : (number : ℕ) → Option (List ℕ) → (was is : Names) → Type 0
HasNameNow number name was is = (is.sensors.items ≡ with_name number name was.sensors.items) × (is.attributes ≡ was.attributes)

-- behind a record's beginning its id string was read, where that is wanted, and is the sensor's name
abbrev pub NamesSensor : Option SensorHead → (size : ℕ) → (old : Cursor) → (was : Names) → (new : Cursor) → (is : Names) → Type 0
NamesSensor None size old was new is = (new ≡ old) × (is ≡ was)
NamesSensor (Some head) size old was new is = (name : Option (List ℕ)) × ReadsIdString head size old name new × HasNameNow head.number name was is

-- a record was read, and this is the id of the next
pub record ReadsRecord (old : Cursor) (was : Names) (next : ℕ) (new : Cursor) (is : Names) : Type 0 where
  pub reply : List ℕ
  pub mid : Cursor
  pub begins : ShowsPart 0 head_size old reply mid
  pub names : NamesSensor (wanted_in was reply) (size_in reply) mid was new is
  pub next_is : next ≡ word_at reply 0

-- a record was read up to its id string
pub record EndsInside (old : Cursor) (was : Names) (new : Session) : Type 0 where
  pub reply : List ℕ
  pub mid : Cursor
  pub begins : ShowsPart 0 head_size old reply mid
  pub head : SensorHead
  pub wanted : wanted_in was reply ≡ Some head
  pub ends : EndsPart head.id_place (name_count (size_in reply) head.id_place) mid new

-- a record wasn't read, or not the whole of it
abbrev pub EndsRecord : (old : Cursor) → (was : Names) → (new : Session) → Type 0
EndsRecord old was new = EndsPart 0 head_size old new ⊎ EndsInside old was new

-- ---- the repository

-- a record was read, there is another, and a name is still wanted
pub record GoesToNext (old : Cursor) (was : Names) (new : Cursor) (is : Names) : Type 0 where
  pub after : Cursor
  pub reads : ReadsRecord old was new.walk.id after is
  pub some : new.walk.id ≢ no_record
  pub wants : wants_sensors is ≡ true
  pub same_session : new.session ≡ after.session
  pub same_reservation : new.walk.reservation ≡ after.walk.reservation

-- so many times in a row
abbrev pub GoesThrough : (count : ℕ) → (old : Cursor) → (was : Names) → (new : Cursor) → (is : Names) → Type 0
GoesThrough zero old was new is = (new ≡ old) × (is ≡ was)
GoesThrough (suc count) old was new is =
    (mid : Cursor) × (known : Names) × GoesThrough count old was mid known × GoesToNext mid known new is

-- the record was the last, or behind it no name is wanted any more
pub record EndsWithRecord (old : Cursor) (was : Names) (new : Session) (is : Names) : Type 0 where
  pub next : ℕ
  pub after : Cursor
  pub reads : ReadsRecord old was next after is
  pub done : (next ≡ no_record) ⊎ (wants_sensors is ≡ false)
  pub same_session : new ≡ after.session

-- Behind so many records the reading ends: with the next, by a request, or since there were as many as are read at most.
abbrev pub EndsBehind : (count : ℕ) → (mid : Cursor) → (known : Names) → (new : Session) → (is : Names) → Type 0
EndsBehind count mid known new is =
    ((count ≡ most_records) × (new ≡ mid.session) × (is ≡ known))
    ⊎ ((count < most_records) × (EndsWithRecord mid known new is ⊎ (EndsRecord mid known new × (is ≡ known))))

-- the records were read from the first on, which has the id 0
pub record ReadsRepository (old : Session) (reservation : ℕ) (was : Names) (new : Session) (is : Names) : Type 0 where
  pub count : ℕ
  pub mid : Cursor
  pub known : Names
  pub through : GoesThrough count (cursor_at old (record { reservation = reservation; id = 0 })) was mid known
  pub ends : EndsBehind count mid known new is

-- where no name of a sensor is wanted nothing is asked for; and nothing more, where the request for a reservation isn't answered
abbrev pub ReadsSensors : (old : Session) → (was : Names) → (new : Session) → (is : Names) → Type 0
ReadsSensors old was new is =
    ((wants_sensors was ≡ false) × (new ≡ old) × (is ≡ was))
    ⊎ ((wants_sensors was ≡ true) × ((Reserves old None new × (is ≡ was))
    ⊎ ((number : ℕ) × (mid : Session) × Reserves old (Some number) mid × ReadsRepository mid number was new is)))
