-- What is written of attributes and of their values are the entries that the readers have.
use Rattle.std.proofs.Common.{◌≡◌, ℕ, suc, ◌*◌, ◌/◌, List, [], ◌∷◌, ◌++◌, length, map, Some, refl, sym, ◌∙◌, ap, subst, arith, length-append}
use Rattle.std.specs.Prelude.{All}
use Rattle.std.specs.List.{flat_map}
use Rattle.std.proofs.lemmas.List.Concat.{flat_map-cons}
use Rattle.record_base.specs.declared.attribute.Attribute.{Attribute}
use Rattle.record_base.specs.declared.attribute.AttributeKind.{AttributeKind}
use Rattle.record_base.specs.declared.attribute.AttributeKind.TheVariants as kind
use Rattle.record_base.specs.Attribute.{type_of_kind}
use Rattle.record_base.specs.AttributeValue.{two_bytes, value_in, HasEightBytes}
use Rattle.record_base.specs.declared.attribute_value.AttributeValue.{AttributeValue}
use Rattle.bios_attr.specs.declared.table_entry.TableEntry.TheVariants as entry
use Rattle.bios_attr.specs.declared.bios_table.BiosTable.TheVariants.{Attributes, Values}
use Rattle.bios_attr.specs.Attributes.{handle_of, handles_of, kind_fields, attribute_entry, attribute_entries}
use Rattle.bios_attr.specs.ValueEntry.{shown_type, entry_bytes}
use Rattle.bios_attr.specs.AttributeEntry.{HasItsBytes, type_of_fields, fields_bytes, attribute_bytes}
use Rattle.bios_attr.specs.declared.current_values.EntryHead.{EntryHead}
use Rattle.bios_attr.specs.TableEntry.{written, AreEntriesOf, IsTableOf}
use Rattle.bios_attr.specs.Tables.{IsTable}
use Rattle.bios_attr.specs.Values.{head_of, value_entries, IsShown}
use Rattle.bios_attr.specs.ValueEntryLaws.{value_told}
use Rattle.bios_attr.specs.TableEntryLaws.{value_fits}
use Rattle.bios_attr.specs.TableContents.{fields_of, entry_of, attribute_contents, value_entry_of, value_contents, AreValuesOf, HasValues}

-- ---- attributes

-- each handle has two bytes
pub handles_long : (strings texts : List (List ℕ)) → length (handles_of strings texts) ≡ 2 * length texts
handles_long strings [] = refl
handles_long strings (text ∷ texts) =
    let cons = ap (λ (xs : List ℕ). length xs) (flat_map-cons (λ (text : List ℕ). two_bytes (handle_of strings text)) text texts) in
    omega (arith, cons, handles_long strings texts, length-append (two_bytes (handle_of strings text)) (handles_of strings texts))

type_is : (strings : List (List ℕ)) (k : AttributeKind) → type_of_fields (fields_of strings k) ≡ type_of_kind k
type_is strings (kind.Enumeration e) = refl
type_is strings (kind.Text t) = refl
type_is strings (kind.Integer i) = refl

fields_are : (strings : List (List ℕ)) (k : AttributeKind) → fields_bytes (fields_of strings k) ≡ kind_fields strings k
fields_are strings (kind.Enumeration e) =
    let half : length (handles_of strings e.values) / 2 ≡ length e.values = omega (arith, handles_long strings e.values) in
    ap (λ (n : ℕ). n ∷ (handles_of strings e.values ++ length e.default ∷ e.default)) half
fields_are strings (kind.Text t) = refl
fields_are strings (kind.Integer i) = refl

entry_is : (strings : List (List ℕ)) (a : Attribute) → attribute_bytes (entry_of strings a) ≡ attribute_entry strings a
entry_is strings a = λ i. two_bytes a.handle ++ shown_type a.read_only (type_is strings a.kind i) ∷ (two_bytes (handle_of strings a.name) ++ fields_are strings a.kind i)

attributes_written : (strings : List (List ℕ)) (attributes : List Attribute) → flat_map written (attribute_contents strings attributes) ≡ attribute_entries strings attributes
attributes_written strings [] = refl
attributes_written strings (a ∷ attributes) =
    flat_map-cons written (entry.Attribute (entry_of strings a)) (attribute_contents strings attributes)
    ∙ (λ i. entry_is strings a i ++ attributes_written strings attributes i)
    ∙ sym (flat_map-cons (attribute_entry strings) a attributes)

pub attribute_table : (strings : List (List ℕ)) (attributes : List Attribute) (table : List ℕ) → AreEntriesOf Attributes (attribute_contents strings attributes) → IsTable (attribute_entries strings attributes) table
    → IsTableOf Attributes (attribute_contents strings attributes) table
attribute_table strings attributes table whole is = record {
  of_table = whole;
  spelled = subst (λ (entries : List ℕ). IsTable entries table) (sym (attributes_written strings attributes)) is;
}

-- attributes and one more
pub contents_more : (strings : List (List ℕ)) (attributes : List Attribute) (a : Attribute) → AreEntriesOf Attributes (attribute_contents strings attributes) → HasItsBytes (fields_of strings a.kind)
    → AreEntriesOf Attributes (attribute_contents strings (attributes ++ a ∷ []))
contents_more strings [] a are whole = (refl, whole, tt)
contents_more strings (first ∷ attributes) a are whole = (are.0, are.1, contents_more strings attributes a are.2 whole)

-- ---- values

-- each value that is shown is one that can stand in a table
abbrev pub AreShown : (ℕ → List ℕ) → List EntryHead → Type 0
AreShown values heads = All (λ head. IsShown (values head.attribute)) heads

first_of : {X : Type 0} (p : X → Type 0) (x : X) (xs : List X) → All p (x ∷ xs) → p x
first_of p x xs all = all 0 x (omega arith)

others_of : {X : Type 0} (p : X → Type 0) (x : X) (xs : List X) → All p (x ∷ xs) → All p xs
others_of p x xs all = λ k d within. all (suc k) d (omega (arith, within))

-- what is read of an attribute's bytes is written as these behind its head, and is a value entry
record IsEntry (values : ℕ → List ℕ) (current : ℕ → AttributeValue) (a : Attribute) : Type 0 where
  spelled : entry_bytes (value_entry_of current a) ≡ two_bytes a.handle ++ shown_type a.read_only (type_of_kind a.kind) ∷ values a.handle
  whole : HasEightBytes (current a.handle)

entry_found : (values : ℕ → List ℕ) (current : ℕ → AttributeValue) (a : Attribute) → IsShown (values a.handle) → value_in (type_of_kind a.kind) (values a.handle) ≡ Some (current a.handle) → IsEntry values current a
entry_found values current a shown read =
    let is = value_told (type_of_kind a.kind) (values a.handle) (current a.handle) shown.small read in
    record {
      spelled = λ i. two_bytes a.handle ++ shown_type a.read_only (is.of_type i) ∷ is.spelled i;
      whole = value_fits (type_of_kind a.kind) (values a.handle) (current a.handle) shown.small _ _ _ read;
    }

entries_whole : (values : ℕ → List ℕ) (current : ℕ → AttributeValue) (attributes : List Attribute) → AreShown values (map head_of attributes) → AreValuesOf attributes values current → AreEntriesOf Values (value_contents current attributes)
entries_whole values current [] shown read = tt
entries_whole values current (a ∷ attributes) shown read =
    let head : IsShown (values a.handle) = first_of (λ (head : EntryHead). IsShown (values head.attribute)) (head_of a) (map head_of attributes) shown in
    let heads = others_of (λ (head : EntryHead). IsShown (values head.attribute)) (head_of a) (map head_of attributes) shown in
    let value = first_of (λ (a : Attribute). value_in (type_of_kind a.kind) (values a.handle) ≡ Some (current a.handle)) a attributes read in
    let others = others_of (λ (a : Attribute). value_in (type_of_kind a.kind) (values a.handle) ≡ Some (current a.handle)) a attributes read in
    (refl, (entry_found values current a head value).whole, entries_whole values current attributes heads others)

values_written : (values : ℕ → List ℕ) (current : ℕ → AttributeValue) (attributes : List Attribute) → AreShown values (map head_of attributes) → AreValuesOf attributes values current
    → flat_map written (value_contents current attributes) ≡ value_entries values (map head_of attributes)
values_written values current [] shown read = refl
values_written values current (a ∷ attributes) shown read =
    let head : IsShown (values a.handle) = first_of (λ (head : EntryHead). IsShown (values head.attribute)) (head_of a) (map head_of attributes) shown in
    let heads = others_of (λ (head : EntryHead). IsShown (values head.attribute)) (head_of a) (map head_of attributes) shown in
    let value = first_of (λ (a : Attribute). value_in (type_of_kind a.kind) (values a.handle) ≡ Some (current a.handle)) a attributes read in
    let others = others_of (λ (a : Attribute). value_in (type_of_kind a.kind) (values a.handle) ≡ Some (current a.handle)) a attributes read in
    let first = (entry_found values current a head value).spelled in
    let more = values_written values current attributes heads others in
    flat_map-cons written (entry.Value (value_entry_of current a)) (value_contents current attributes)
    ∙ (λ i. first i ++ more i)
    ∙ sym (flat_map-cons (λ (head : EntryHead). two_bytes head.attribute ++ head.code ∷ values head.attribute) (head_of a) (map head_of attributes))

pub value_table : (heads : List EntryHead) (values : ℕ → List ℕ) (table : List ℕ) → AreShown values heads → IsTable (value_entries values heads) table → HasValues heads values table
value_table heads values table shown is attributes current same read =
    let own : AreShown values (map head_of attributes) = subst (AreShown values) same shown in
    record {
      of_table = entries_whole values current attributes own read;
      spelled = subst (λ (entries : List ℕ). IsTable entries table) (ap (value_entries values) same ∙ sym (values_written values current attributes own read)) is;
    }
