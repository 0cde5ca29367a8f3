-- What the tables of a board say (DSP0247): the entries of its strings, of its attributes, and of the values that these have.
use Rattle.std.specs.Prelude.{◌≡◌, ℕ, List, map, All, Some}
use Rattle.record_base.specs.declared.attribute.Attribute.{Attribute}
use Rattle.record_base.specs.declared.attribute.AttributeKind.{AttributeKind}
use Rattle.record_base.specs.declared.attribute.AttributeKind.TheVariants as kind
use Rattle.record_base.specs.declared.attribute.IntegerAttribute.{IntegerAttribute}
use Rattle.record_base.specs.declared.attribute_value.AttributeValue.{AttributeValue}
use Rattle.record_base.specs.Attribute.{type_of_kind}
use Rattle.record_base.specs.AttributeValue.{value_in}
use Rattle.bios_attr.specs.declared.attribute_entry.AttributeEntry.{AttributeEntry}
use Rattle.bios_attr.specs.declared.attribute_entry.IntegerFields.{IntegerFields}
use Rattle.bios_attr.specs.declared.attribute_entry.KindFields.{KindFields}
use Rattle.bios_attr.specs.declared.attribute_entry.KindFields.TheVariants as fields
use Rattle.bios_attr.specs.declared.value_entry.ValueEntry.{ValueEntry}
use Rattle.bios_attr.specs.declared.table_entry.TableEntry.{TableEntry}
use Rattle.bios_attr.specs.declared.table_entry.TableEntry.TheVariants as entry
use Rattle.bios_attr.specs.declared.bios_table.BiosTable.TheVariants.{Strings, Attributes, Values}
use Rattle.bios_attr.specs.declared.current_values.EntryHead.{EntryHead}
use Rattle.bios_attr.specs.Attributes.{strings_of, handle_of, handles_of}
use Rattle.bios_attr.specs.StringTable.{numbered}
use Rattle.bios_attr.specs.TableEntry.{IsTableOf}
use Rattle.bios_attr.specs.Tables.{OpenedTables}
use Rattle.bios_attr.specs.Values.{head_of}

-- the entries of strings: each text, with handles from 0 on
abbrev pub string_contents : List (List ℕ) → List TableEntry
string_contents strings = map entry.String (numbered 0 strings)

-- an integer's bounds, its increment, and what it is at first
abbrev pub numbers_of : IntegerAttribute → IntegerFields
numbers_of i = record { lower = i.steps.lower; upper = i.steps.upper; increment = i.steps.increment; default = i.default }

-- what an entry says of a kind: the handles of an enumeration's possible values, and the indexes of those that it is at first; a string's type, its
-- lengths, and what it is at first; an integer's numbers
abbrev pub fields_of : List (List ℕ) → AttributeKind → KindFields
fields_of strings (kind.Enumeration e) = fields.Enumeration (record { values = handles_of strings e.values; default = e.default })
fields_of strings (kind.Text t) = fields.Text (record { string_type = t.string_type; least = t.lengths.least; most = t.lengths.most; default = t.default })
fields_of strings (kind.Integer i) = fields.Integer (numbers_of i)

-- an attribute's entry: its handle, whether it can only be read, the handle of its name, and what is said of its kind
abbrev pub entry_of : List (List ℕ) → Attribute → AttributeEntry
entry_of strings a = record { attribute = a.handle; read_only = a.read_only; name = handle_of strings a.name; kind = fields_of strings a.kind }

-- the entries of attributes
abbrev pub attribute_contents : List (List ℕ) → List Attribute → List TableEntry
attribute_contents strings attributes = map (λ a. entry.Attribute (entry_of strings a)) attributes

-- the entry of an attribute's value: the attribute's handle, whether it can only be read, and the value
abbrev pub value_entry_of : (ℕ → AttributeValue) → Attribute → ValueEntry
value_entry_of current a = record { attribute = a.handle; read_only = a.read_only; value = current a.handle }

-- the entries of the values that attributes have
abbrev pub value_contents : (ℕ → AttributeValue) → List Attribute → List TableEntry
value_contents current attributes = map (λ a. entry.Value (value_entry_of current a)) attributes

-- the tables of strings and of attributes are those of these entries, as the readers of entries have them
pub record HaveContents (attributes : List Attribute) (tables : OpenedTables) : Type 0 where
  pub strings : IsTableOf Strings (string_contents (strings_of attributes)) tables.strings
  pub described : IsTableOf Attributes (attribute_contents (strings_of attributes) attributes) tables.attributes

-- these are the values of attributes: the bytes that each has are read as its value, by the attribute's type
abbrev pub AreValuesOf : List Attribute → (ℕ → List ℕ) → (ℕ → AttributeValue) → Type 0
AreValuesOf attributes values current = All (λ a. value_in (type_of_kind a.kind) (values a.handle) ≡ Some (current a.handle)) attributes

-- where the heads are those of attributes, and the bytes behind them are values of these, the table is that of these values' entries
abbrev pub HasValues : List EntryHead → (ℕ → List ℕ) → List ℕ → Type 0
HasValues heads values table =
    (attributes : List Attribute) (current : ℕ → AttributeValue) → heads ≡ map head_of attributes → AreValuesOf attributes values current → IsTableOf Values (value_contents current attributes) table
