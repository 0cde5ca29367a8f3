-- Tables that were opened tell of the attributes that they were opened with, in one way at most.
use Rattle.std.proofs.Props.{props}
use Rattle.std.specs.Prelude.{ℕ, List}
use Rattle.record_base.specs.declared.attribute.Attribute.{Attribute}
use Rattle.bios_attr.specs.Tables.{OpenedTables}
use Rattle.bmc_board.specs.declared.board.Kept.{Kept}
use Rattle.bmc_board.specs.declared.board.Kept.TheVariants.{Stale, Current}
use Rattle.bmc_board.specs.ToldTables.{TellsAttributes, KeepsValueTable}

pub TellsAttributes-prop : (attributes : List Attribute) (tables : OpenedTables) → IsProp (TellsAttributes attributes tables)
TellsAttributes-prop attributes tables = hlevel props

pub KeepsValueTable-prop : (kept : Kept) (attributes : List Attribute) (values : ℕ → List ℕ) (tables : OpenedTables) → IsProp (KeepsValueTable kept attributes values tables)
KeepsValueTable-prop Stale attributes values tables = hlevel props
KeepsValueTable-prop Current attributes values tables = hlevel props
