-- The tables of a board's attributes are those that its definitions name.
use Rattle.std.proofs.Common.{◌≡◌, ℕ, List, ◌++◌, map, ◌∙◌, ap, refl, subst}
use Rattle.std.specs.Int.{w32, to_le_bytes}
use Rattle.record_base.specs.declared.attribute.Attribute.{Attribute}
use Rattle.pldm_base.specs.Crc.{crc_of}
use Rattle.pldm_base.proofs.Register.{one-crc32, crc_is}
use Rattle.bios_attr.specs.Values.{head_of, value_entries}
use Rattle.bios_attr.specs.declared.bios_table.BiosTable.{BiosTable}
use Rattle.bios_attr.specs.declared.bios_table.BiosTable.TheVariants.{Strings, Attributes, Values}
use Rattle.bios_attr.specs.Tables.{padded, IsTable, OpenedTables, AreTables, ShowsValues, table_named}
use Rattle.bmc_board.specs.BiosTables.{table_bytes}
use Rattle.bmc_board.specs.declared.board.Kept.{Kept}
use Rattle.bmc_board.specs.declared.board.Kept.TheVariants.{Current}
use Rattle.bmc_board.specs.ToldTables.{table_of, TellsAttributes, KeepsValueTable}

-- entries have one table
pub table_is : (entries table : List ℕ) → IsTable entries table → table ≡ table_of entries
table_is entries table is = is.spelled ∙ ap (λ (crc : ℕ). padded entries ++ to_le_bytes w32 crc) (one-crc32 (padded entries) is.crc (crc_of (padded entries)) is.checked (crc_is (padded entries)))

-- tables tell of the attributes with which they are opened
pub opened_tell : (attributes : List Attribute) (tables : OpenedTables) → AreTables attributes tables → TellsAttributes attributes tables
opened_tell attributes tables are = record {
  strings = table_is _ _ are.strings;
  described = table_is _ _ are.described;
  heads = λ values. ap (value_entries values) are.heads;
}

-- they tell of them whichever values are shown
pub shown_tell : (attributes : List Attribute) (before after : OpenedTables) (values : ℕ → List ℕ) → TellsAttributes attributes before → ShowsValues before values after → TellsAttributes attributes after
shown_tell attributes before after values tell shows = record {
  strings = shows.strings ∙ tell.strings;
  described = shows.attributes ∙ tell.described;
  heads = λ others. ap (value_entries others) shows.heads ∙ tell.heads others;
}

-- the table of values that is shown is that of the values
pub shown_values : (attributes : List Attribute) (before after : OpenedTables) (values : ℕ → List ℕ) → TellsAttributes attributes before → ShowsValues before values after → after.values ≡ table_of (value_entries values (map head_of attributes))
shown_values attributes before after values tell shows = table_is _ _ shows.shown ∙ ap table_of (tell.heads values)

-- each table that is kept is what its definition names
pub kept_is : (attributes : List Attribute) (tables : OpenedTables) (values : ℕ → List ℕ) (table : BiosTable) (kept : Kept) → TellsAttributes attributes tables → KeepsValueTable kept attributes values tables
    → (table ≡ Values → kept ≡ Current) → table_named tables table ≡ table_bytes attributes values table
kept_is attributes tables values Strings kept tell is current = tell.strings
kept_is attributes tables values Attributes kept tell is current = tell.described
kept_is attributes tables values Values kept tell is current = subst (λ (k : Kept). KeepsValueTable k attributes values tables) (current refl) is
