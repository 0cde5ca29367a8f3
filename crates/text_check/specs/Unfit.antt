-- Which sensor data records of a board fit none of its sensors (IPMI 2.0, "Sensor Data Record Formats").
use Rattle.std.specs.Prelude.{ℕ, Bool, not, ◌==◌, ◌&&◌, ◌||◌, List, ◌++◌, codes, drop, filter, length, slice_index, take}
use Rattle.std.specs.Fmt.{decimal}
use Rattle.std.specs.List.{flat_map, list_any}
use Rattle.hex.specs.Hex.{encode_upper}
use Rattle.two_wire.specs.Places.{controller_wire}
use Rattle.record_base.specs.Sdr.{sdr_id}
use Rattle.record_base.specs.declared.sensor.Sensor.{Sensor}
use Rattle.cfg_records.specs.declared.board_file.BoardFile.{BoardFile}
use Rattle.text_lines.specs.Cuts.{ended}

-- the record describes a sensor: it is a full sensor record or a compact one
abbrev pub describes_sensor : List ℕ → Bool
describes_sensor bytes = (slice_index bytes 3 == 0x01) || (slice_index bytes 3 == 0x02)

-- the bytes that such a record has behind its first five and that say which sensor it describes: the sensor's owner, the channel and the logical unit
-- of that, and the sensor's number
abbrev pub key_of : List ℕ → List ℕ
key_of bytes = take 3 (drop 5 bytes)

-- The key is one of these sensors': the controller owns it, on channel 0 and logical unit 0, and one of them has its number.
abbrev pub is_key : List Sensor → List ℕ → Bool
is_key sensors key =
    (length key == 3) && ((slice_index key 0 == controller_wire) && ((slice_index key 1 == 0)
    && list_any (λ sensor. sensor.number == slice_index key 2) sensors))

-- the record describes a sensor, and none of these
abbrev pub fits_none : List Sensor → List ℕ → Bool
fits_none sensors bytes = describes_sensor bytes && not (is_key sensors (key_of bytes))

-- the records of a board that fit none of its sensors, in its order
abbrev pub unfit : BoardFile → List (List ℕ)
unfit board = filter (fits_none board.sensors.items) board.sdr.items

-- there is one
abbrev pub has_unfit : BoardFile → Bool
has_unfit board = list_any (fits_none board.sensors.items) board.sdr.items

-- the line of such a record, in a file of this name: its id, and its key in hexadecimal
abbrev pub unfit_line : (name bytes : List ℕ) → List ℕ
unfit_line name bytes = name ++ (codes ": sdr record " ++ (decimal (sdr_id bytes) ++ (codes ": no sensor has the key " ++ encode_upper (key_of bytes))))

-- the lines of such records
abbrev pub lines_of : (name : List ℕ) → List (List ℕ) → List ℕ
lines_of name records = flat_map (λ bytes. ended (unfit_line name bytes)) records

-- the lines of those of a board
abbrev pub unfit_lines : (name : List ℕ) → BoardFile → List ℕ
unfit_lines name board = lines_of name (unfit board)
