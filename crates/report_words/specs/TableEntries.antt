-- Entries of a table of attributes by their numbers (DSP0247).
use Rattle.std.specs.Prelude.{◌≡◌, ◌⊎◌, ℕ, ◌==◌, List, [], ◌∷◌, Option, Some, None, if◌then◌else◌}
use Rattle.bios_attr.specs.declared.bios_table.BiosTable.{BiosTable}
use Rattle.bios_attr.specs.declared.table_entry.TableEntry.{TableEntry}
use Rattle.bios_attr.specs.declared.table_entry.TableEntry.TheVariants.{String, Attribute, Value}
use Rattle.bios_attr.specs.TableEntry.{IsBody, IsNoTable, IsTableOf}

-- the number by which an entry is known: the handle of its string or of its attribute
abbrev pub number_of : TableEntry → ℕ
number_of (String e) = e.handle
number_of (Attribute e) = e.attribute
number_of (Value e) = e.attribute

-- the first entry of this number
abbrev pub first_with : ℕ → List TableEntry → Option TableEntry
first_with number [] = None
first_with number (entry ∷ entries) = if number_of entry == number then Some entry else first_with number entries

-- where the bytes are entries and their padding, it is the first of them that has the number
abbrev pub FindsInBody : BiosTable → (bytes : List ℕ) → ℕ → Option TableEntry → Type 0
FindsInBody t bytes number found = (entries : List TableEntry) → IsBody t bytes entries → found ≡ first_with number entries

-- the bytes are the table of entries of which it is the first that has the number, or they are no table, and it is none
abbrev pub FindsIn : BiosTable → (bytes : List ℕ) → ℕ → Option TableEntry → Type 0
FindsIn t bytes number found =
    ((entries : List TableEntry) × IsTableOf t entries bytes × (found ≡ first_with number entries))
    ⊎ (IsNoTable t bytes × (found ≡ None))
