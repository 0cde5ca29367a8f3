-- Tables that tell of a board's attributes (DSP0247).
use Rattle.std.specs.Prelude.{◌≡◌, ℕ, List, ◌++◌, map}
use Rattle.std.specs.Int.{w32, to_le_bytes}
use Rattle.pldm_base.specs.Crc.{crc_of}
use Rattle.record_base.specs.declared.attribute.Attribute.{Attribute}
use Rattle.bios_attr.specs.Attributes.{strings_of, string_entries, attribute_entries}
use Rattle.bios_attr.specs.Values.{head_of, value_entries}
use Rattle.bios_attr.specs.Tables.{padded, OpenedTables}
use Rattle.bmc_board.specs.declared.board.Kept.{Kept}
use Rattle.bmc_board.specs.declared.board.Kept.TheVariants.{Stale, Current}

-- the table of these entries: they and the padding, and the CRC-32 of all that in four bytes
abbrev pub table_of : List ℕ → List ℕ
table_of entries = padded entries ++ to_le_bytes w32 (crc_of (padded entries))

-- tables that were opened are those of these attributes, but for the values
pub record TellsAttributes (attributes : List Attribute) (tables : OpenedTables) : Type 0 where
  pub strings : tables.strings ≡ table_of (string_entries 0 (strings_of attributes))
  pub described : tables.attributes ≡ table_of (attribute_entries (strings_of attributes) attributes)
  pub heads : (values : ℕ → List ℕ) → value_entries values tables.heads ≡ value_entries values (map head_of attributes)

-- the kept table of values is that of these values, unless it is stale
abbrev pub KeepsValueTable : Kept → List Attribute → (ℕ → List ℕ) → OpenedTables → Type 0
KeepsValueTable Stale attributes values tables = Unit {0}
KeepsValueTable Current attributes values tables = tables.values ≡ table_of (value_entries values (map head_of attributes))
