-- Whole tables (DSP0247): entries, padding, and a CRC-32.
use Rattle.std.specs.Prelude.{◌≡◌, ℕ, ◌-◌, ◌%◌, List, [], ◌∷◌, ◌++◌, take, length, map}
use Rattle.std.specs.Int.{w32, to_le_bytes}
use Rattle.pldm_base.specs.Crc.{IsCrc32}
use Rattle.record_base.specs.declared.attribute.Attribute.{Attribute}
use Rattle.bios_attr.specs.declared.current_values.EntryHead.{EntryHead}
use Rattle.bios_attr.specs.declared.bios_table.BiosTable.{BiosTable}
use Rattle.bios_attr.specs.declared.bios_table.BiosTable.TheVariants.{Strings, Attributes, Values}
use Rattle.bios_attr.specs.Attributes.{strings_of, string_entries, attribute_entries}
use Rattle.bios_attr.specs.StringTable.{texts_used, AreStrings}
use Rattle.bios_attr.specs.Values.{head_of, value_entries}

-- entries, with the bytes 00h behind them that make their number a multiple of four
abbrev pub padded : List ℕ → List ℕ
padded entries = entries ++ take ((4 - length entries % 4) % 4) (0 ∷ 0 ∷ 0 ∷ [])

-- the table of these entries: they and the padding, and the CRC-32 of all that in four bytes
pub record IsTable (entries table : List ℕ) : Type 0 where
  pub crc : ℕ
  pub checked : IsCrc32 (padded entries) crc
  pub spelled : table ≡ padded entries ++ to_le_bytes w32 crc

-- the tables of some attributes, which were opened with them: those of strings and attributes, what the entries of their values begin with,
-- and the table of values that was shown last
pub record OpenedTables : Type 0 where
  pub strings : List ℕ
  pub attributes : List ℕ
  pub heads : List EntryHead
  pub values : List ℕ

-- they are those of these attributes, whose strings are the texts that these use
pub record AreTables (attributes : List Attribute) (tables : OpenedTables) : Type 0 where
  pub strings : IsTable (string_entries 0 (strings_of attributes)) tables.strings
  pub described : IsTable (attribute_entries (strings_of attributes) attributes) tables.attributes
  pub heads : tables.heads ≡ map head_of attributes
  pub texts : AreStrings (texts_used attributes) (strings_of attributes)

-- the same tables, with values that now stand
pub record ShowsValues (before : OpenedTables) (values : ℕ → List ℕ) (after : OpenedTables) : Type 0 where
  pub strings : after.strings ≡ before.strings
  pub attributes : after.attributes ≡ before.attributes
  pub heads : after.heads ≡ before.heads
  pub shown : IsTable (value_entries values before.heads) after.values

-- the table of this name
abbrev pub table_named : OpenedTables → BiosTable → List ℕ
table_named tables Strings = tables.strings
table_named tables Attributes = tables.attributes
table_named tables Values = tables.values
