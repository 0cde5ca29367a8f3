-- The entries of the three tables (DSP0247), and whole tables as lists of them.
use Rattle.std.specs.Prelude.{◌≡◌, ℕ, ◌+◌, ◌%◌, ◌≤◌, nat_le, List, [], ◌∷◌, ◌++◌, ◌==◌, length, slice_index, if◌then◌else◌, Option, None, ◌-◌, ◌<◌, take, drop, false}
use Rattle.std.specs.List.{flat_map, list_all}
use Rattle.std.specs.Int.{w32, to_le_bytes}
use Rattle.pldm_base.specs.Crc.{IsCrc32}
use Rattle.std.specs.Option.{option_map}
use Rattle.record_base.specs.AttributeValue.{number_of, enumeration_type, string_type, value_in, HasEightBytes}
use Rattle.bios_attr.specs.declared.bios_table.BiosTable.{BiosTable}
use Rattle.bios_attr.specs.declared.bios_table.BiosTable.TheVariants as table
use Rattle.bios_attr.specs.declared.value_entry.ValueEntry.{ValueEntry}
use Rattle.bios_attr.specs.declared.table_entry.TableEntry.{TableEntry}
use Rattle.bios_attr.specs.declared.whole_table.TableError.{TableError}
use Rattle.bios_attr.specs.declared.whole_table.TableError.TheVariants.{WrongLength, WrongCheck, NotAnEntry, WrongPadding}
use Rattle.bios_attr.specs.declared.table_entry.TableEntry.TheVariants.{String, Attribute, Value}
use Rattle.bios_attr.specs.ValueEntry.{read_only_bit, entry_bytes}
use Rattle.bios_attr.specs.StringEntry.{piece, string_bytes, string_at}
use Rattle.bios_attr.specs.AttributeEntry.{HasItsBytes, attribute_bytes, attribute_at}
use Rattle.bios_attr.specs.Tables.{padded, IsTable}

-- ---- value entries at the front of bytes

-- how many bytes a value has, by its type and its first bytes: a count and so many indexes; a length and so long a text; a number
abbrev pub value_size : ℕ → List ℕ → ℕ
value_size code bytes =
    if code == enumeration_type then 1 + slice_index bytes 0
    else (if code == string_type then 2 + number_of (slice_index bytes 0) (slice_index bytes 1)
    else 8)

-- the value entry at the front of the bytes, and what is behind it
abbrev pub value_at : List ℕ → Option (ValueEntry × List ℕ)
value_at (low ∷ high ∷ code ∷ bytes) =
    piece (value_size (code % read_only_bit) bytes) bytes (λ value rest.
    option_map (λ v. (record { attribute = number_of low high; read_only = nat_le read_only_bit code; value = v }, rest)) (value_in (code % read_only_bit) value))
value_at _ = None

-- ---- entries of any table

-- the table that has such entries
abbrev pub table_of : TableEntry → BiosTable
table_of (String e) = table.Strings
table_of (Attribute e) = table.Attributes
table_of (Value e) = table.Values

-- an entry's bytes
abbrev pub written : TableEntry → List ℕ
written (String e) = string_bytes e
written (Attribute e) = attribute_bytes e
written (Value e) = entry_bytes e

-- each part of the entry has the bytes that the standard gives it
abbrev pub IsWhole : TableEntry → Type 0
IsWhole (String e) = Unit {0}
IsWhole (Attribute e) = HasItsBytes e.kind
IsWhole (Value e) = HasEightBytes e.value

-- the entry of a table at the front of the bytes, and what is behind it
abbrev pub entry_at : BiosTable → List ℕ → Option (TableEntry × List ℕ)
entry_at table.Strings bytes = option_map (λ found. (String found.0, found.1)) (string_at bytes)
entry_at table.Attributes bytes = option_map (λ found. (Attribute found.0, found.1)) (attribute_at bytes)
entry_at table.Values bytes = option_map (λ found. (Value found.0, found.1)) (value_at bytes)

-- an entry of a table and what is behind it, as they were read from these bytes
pub record IsEntryRead (t : BiosTable) (bytes : List ℕ) (read : TableEntry × List ℕ) : Type 0 where
  pub of_table : table_of read.0 ≡ t
  pub spelled : written read.0 ++ read.1 ≡ bytes
  pub whole : IsWhole read.0

-- ---- whole tables

-- each is a whole entry of this table
abbrev pub AreEntriesOf : BiosTable → List TableEntry → Type 0
AreEntriesOf t [] = Unit {0}
AreEntriesOf t (entry ∷ entries) = (table_of entry ≡ t) × IsWhole entry × AreEntriesOf t entries

-- the bytes are the table of these entries: they, one behind the other, then bytes 00h up to a multiple of four, then the CRC-32. The padding has
-- three bytes at most, and no entry has fewer than four, so no padding is an entry
pub record IsTableOf (t : BiosTable) (entries : List TableEntry) (bytes : List ℕ) : Type 0 where
  pub of_table : AreEntriesOf t entries
  pub spelled : IsTable (flat_map written entries) bytes

-- they are the table of so many entries
pub record HasEntries (t : BiosTable) (bytes : List ℕ) (count : ℕ) : Type 0 where
  pub entries : List TableEntry
  pub counted : length entries ≡ count
  pub is_table : IsTableOf t entries bytes

-- they are the table of no entries at all, not even of none
abbrev pub IsNoTable : BiosTable → List ℕ → Type 0
IsNoTable t bytes = (entries : List TableEntry) → IsTableOf t entries bytes → ⊥

-- the entries and the padding of a table
pub record IsBody (t : BiosTable) (bytes : List ℕ) (entries : List TableEntry) : Type 0 where
  pub of_table : AreEntriesOf t entries
  pub spelled : padded (flat_map written entries) ≡ bytes

pub record HasBody (t : BiosTable) (bytes : List ℕ) (count : ℕ) : Type 0 where
  pub entries : List TableEntry
  pub counted : length entries ≡ count
  pub is_body : IsBody t bytes entries

abbrev pub IsNoBody : BiosTable → List ℕ → Type 0
IsNoBody t bytes = (entries : List TableEntry) → IsBody t bytes entries → ⊥

-- ---- why bytes are no table: the first fault

-- whole entries of the table that stand first, and what is behind them
pub record BeginsWith (t : BiosTable) (bytes rest : List ℕ) : Type 0 where
  pub entries : List TableEntry
  pub of_table : AreEntriesOf t entries
  pub spelled : flat_map written entries ++ rest ≡ bytes

-- behind whole entries stand four bytes or more that are no entry
pub record StopsAtBytes (t : BiosTable) (bytes : List ℕ) : Type 0 where
  pub rest : List ℕ
  pub begins : BeginsWith t bytes rest
  pub long : 4 ≤ length rest
  pub unread : entry_at t rest ≡ None

-- behind whole entries stand fewer than four bytes, and one of them isn't 00h
pub record StopsAtPadding (t : BiosTable) (bytes : List ℕ) : Type 0 where
  pub rest : List ℕ
  pub begins : BeginsWith t bytes rest
  pub short : length rest < 4
  pub other : list_all (λ byte. byte == 0) rest ≡ false

-- a fault of entries and their padding
abbrev pub IsBodyFault : BiosTable → List ℕ → TableError → Type 0
IsBodyFault t bytes NotAnEntry = StopsAtBytes t bytes
IsBodyFault t bytes WrongPadding = StopsAtPadding t bytes
IsBodyFault t bytes _ = ⊥

-- the last four bytes are the CRC-32 of the others
pub record IsChecked (bytes : List ℕ) (crc : ℕ) : Type 0 where
  pub checked : IsCrc32 (take (length bytes - 4) bytes) crc
  pub spelled : drop (length bytes - 4) bytes ≡ to_le_bytes w32 crc

-- bytes of this kind come in fours, and are four or more
pub record HasLength (bytes : List ℕ) : Type 0 where
  pub long : 4 ≤ length bytes
  pub even : length bytes % 4 ≡ 0

-- the length comes first, then the CRC-32, then entries and padding
abbrev pub IsFault : BiosTable → List ℕ → TableError → Type 0
IsFault t bytes WrongLength = HasLength bytes → ⊥
IsFault t bytes WrongCheck = HasLength bytes × ((crc : ℕ) → IsChecked bytes crc → ⊥)
IsFault t bytes error = HasLength bytes × ((crc : ℕ) × IsChecked bytes crc) × IsBodyFault t (take (length bytes - 4) bytes) error
