-- The names of attributes (DSP0247): an attribute's entry has the handle of a string.
use Rattle.std.specs.Prelude.{◌≡◌, ℕ, List, Option, Some, None}
use Rattle.bios_attr.specs.declared.bios_table.BiosTable.TheVariants as table
use Rattle.bios_attr.specs.declared.table_entry.TableEntry.{TableEntry}
use Rattle.bios_attr.specs.declared.table_entry.TableEntry.TheVariants.{String, Attribute}
use Rattle.report_words.specs.TableEntries.{FindsIn}

-- the handle of the name that an entry gives
abbrev pub name_in : Option TableEntry → Option ℕ
name_in (Some (Attribute e)) = Some e.name
name_in _ = None

-- the text that an entry gives
abbrev pub text_in : Option TableEntry → Option (List ℕ)
text_in (Some (String e)) = Some e.text
text_in _ = None

-- the table of attributes names the attribute by this handle
abbrev pub NamesByHandle : (attributes : List ℕ) → (attribute : ℕ) → Option ℕ → Type 0
NamesByHandle attributes attribute named = (found : Option TableEntry) × FindsIn table.Attributes attributes attribute found × (named ≡ name_in found)

-- the table of strings has this text under the handle
abbrev pub HasText : (strings : List ℕ) → (handle : ℕ) → Option (List ℕ) → Type 0
HasText strings handle text = (found : Option TableEntry) × FindsIn table.Strings strings handle found × (text ≡ text_in found)

-- of a handle, and of none
abbrev pub HasTextOf : (strings : List ℕ) → Option ℕ → Option (List ℕ) → Type 0
HasTextOf strings (Some handle) text = HasText strings handle text
HasTextOf strings None text = text ≡ None

-- the attribute's name by both tables
abbrev pub HasName : (attributes strings : List ℕ) → (attribute : ℕ) → Option (List ℕ) → Type 0
HasName attributes strings attribute name = (handle : Option ℕ) × NamesByHandle attributes attribute handle × HasTextOf strings handle name
