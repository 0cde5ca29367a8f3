-- The names of sensors (IPMI 2.0, "Sensor Data Record Formats" and "Type/Length Byte Format").
use Rattle.std.specs.Prelude.{ℕ, zero, suc, ◌+◌, ◌*◌, ◌/◌, ◌%◌, ◌==◌, ◌&&◌, nat_le, List, [], ◌∷◌, length, take, Option, Some, None, if◌then◌else◌}
use Rattle.std.specs.Option.{option_map}
use Rattle.record_base.specs.Requests.{byte_at}
use Rattle.report_words.specs.declared.sensor_names.SensorHead.{SensorHead}

-- the types of the records of sensors
abbrev pub full_sensor : ℕ
full_sensor = 0x01

abbrev pub compact_sensor : ℕ
compact_sensor = 0x02

abbrev pub event_only : ℕ
event_only = 0x03

-- the offset of the id string's type and length, in a record of this type
abbrev pub id_place : ℕ → Option ℕ
id_place kind =
    if kind == full_sensor then Some 47
    else (if kind == compact_sensor then Some 31
    else (if kind == event_only then Some 17
    else None))

-- the address of the controller, which owns its sensors
abbrev pub owner_address : ℕ
owner_address = 0x20

-- what the first eight bytes of a record tell: its id, the version, its type, its length, the sensor's owner and logical unit, and the sensor
abbrev pub sensor_head : List ℕ → Option SensorHead
sensor_head (low ∷ high ∷ version ∷ kind ∷ size ∷ owner ∷ lun ∷ number ∷ more) =
    if owner == owner_address && lun % 4 == 0 then option_map (λ place. record { number = number; id_place = place }) (id_place kind) else None
sensor_head _ = None

-- ---- characters of six bits, of which the lowest bits of a byte are the first

-- the bits of its first byte that stand before a character, as the number that they count to
abbrev pub bits_before : ℕ → ℕ
bits_before place = if place % 4 == 0 then 1 else (if place % 4 == 1 then 64 else (if place % 4 == 2 then 16 else 4))

-- the character at a place: 20h and the six bits
abbrev pub packed_at : List ℕ → ℕ → ℕ
packed_at bytes place = (byte_at bytes (3 * place / 4) + 256 * byte_at bytes (3 * place / 4 + 1)) / bits_before place % 64 + 0x20

-- so many characters from a place on
abbrev pub packed_from : (count : ℕ) → List ℕ → (place : ℕ) → List ℕ
packed_from zero bytes place = []
packed_from (suc more) bytes place = packed_at bytes place ∷ packed_from more bytes (suc place)

abbrev pub packed_text : List ℕ → (count : ℕ) → List ℕ
packed_text bytes count = packed_from count bytes 0

-- the bytes of so many characters
abbrev pub packed_size : ℕ → ℕ
packed_size count = (3 * count + 3) / 4

-- ---- the id string

-- so many characters, by how they are written: 11b in bytes, 10b packed; 00b, Unicode, and 01b, BCD plus, aren't told
abbrev pub id_text : (kind count : ℕ) → List ℕ → Option (List ℕ)
id_text kind count bytes =
    if kind == 3 && nat_le count (length bytes) then Some (take count bytes)
    else (if kind == 2 && nat_le (packed_size count) (length bytes) then Some (packed_text bytes count)
    else None)

-- the id string, its type and length first; none where it is empty
abbrev pub id_string : List ℕ → Option (List ℕ)
id_string [] = None
id_string (code ∷ bytes) = if code % 32 == 0 then None else id_text (code / 64) (code % 32) bytes
