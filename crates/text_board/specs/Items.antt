-- The items of an array of a file, of which no two have one number.
use Rattle.std.specs.Prelude.{◌≡◌, ◌⊎◌, ℕ, List, ◌∷◌, Some}
use Rattle.std.specs.List.{AllZip}
use Rattle.toml.specs.Data.{Data, Members}
use Rattle.text_fields.specs.declared.field.Field.{Field}
use Rattle.text_fields.specs.declared.row.Row.{Row}
use Rattle.text_board.specs.declared.fault.FileFault.{FileFault}
use Rattle.text_board.specs.declared.fault.FileFault.TheVariants as file
use Rattle.text_board.specs.declared.fault.Item.{Item}
use Rattle.text_fields.specs.Trees.{table_of}
use Rattle.text_fields.specs.Faults.{first}
use Rattle.text_board.specs.Faults.{item_faults}

-- the member of an array is a table that holds the item
abbrev pub InTable : {A : Type 0} → (Members → A → Type 0) → Data → A → Type 0
InTable holds d item = holds (table_of d) item

-- memory ran out, or the fault counts in an array of items, where those before the member hold these
abbrev pub IsNextFault : {A : Type 0} → (Data → A → Type 0) → (ℕ → Item) → (Members → List Row) → Field → List A → Data → FileFault → Type 0
IsNextFault holds item_at rows named before d why =
    (why ≡ file.Memory)
    ⊎ ((seen ds : List Data) → AllZip holds seen before → first (item_faults item_at rows named seen (d ∷ ds)) ≡ Some why)
