-- Records of the repository that describes sensors and other parts (IPMI 2.0, "Sensor Data Record Formats"). A record begins with five bytes: its
-- id, the low byte first, the version of its format, its type, and the number of bytes that follow.
use Rattle.std.specs.Prelude.{◌≡◌, ◌≢◌, ℕ, ◌+◌, ◌*◌, ◌≤◌, List, length, slice_index}

-- a record's id
abbrev pub sdr_id : List ℕ → ℕ
sdr_id bytes = slice_index bytes 0 + 256 * slice_index bytes 1

-- the bytes are a record. 0000h and FFFFh ask for the first record and the last, and are no record's id.
pub record IsSdrRecord (bytes : List ℕ) : Type 0 where
  pub header : 5 ≤ length bytes
  pub whole : length bytes ≡ 5 + slice_index bytes 4
  pub not_first : sdr_id bytes ≢ 0x0000
  pub not_last : sdr_id bytes ≢ 0xFFFF
