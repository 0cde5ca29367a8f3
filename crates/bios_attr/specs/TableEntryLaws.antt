-- An entry of a table that is written is read as itself, with what is behind it, and the other way round.
use Rattle.std.proofs.Common.{◌≡◌, ℕ, suc, ◌/◌, ◌%◌, ◌≤◌, List, [], ◌∷◌, ◌++◌, length, take, drop, Bool, true, false, ◌==◌, nat_le, if◌then◌else◌, Option, Some, None, refl, ◌∙◌, ap, subst, arith}
use Rattle.std.specs.Option.{option_map}
use Rattle.std.specs.Int.{w64, from_le_bytes}
use Rattle.std.proofs.lemmas.List.{take-append-drop}
use Rattle.record_base.specs.AttributeRangeLaws.{value_back, number_back}
use Rattle.record_base.specs.declared.attribute_value.AttributeValue.{AttributeValue}
use Rattle.record_base.specs.declared.attribute_value.AttributeValue.TheVariants.{Indexes, Text, Number}
use Rattle.record_base.specs.AttributeValue.{number_of, type_of_value, value_bytes, indexes_in, text_in, number_in, value_in, HasEightBytes}
use Rattle.bios_attr.specs.declared.bios_table.BiosTable.{BiosTable}
use Rattle.bios_attr.specs.declared.bios_table.BiosTable.TheVariants as table
use Rattle.bios_attr.specs.declared.value_entry.ValueEntry.{ValueEntry}
use Rattle.bios_attr.specs.declared.string_entry.StringEntry.{StringEntry}
use Rattle.bios_attr.specs.declared.attribute_entry.AttributeEntry.{AttributeEntry}
use Rattle.bios_attr.specs.declared.table_entry.TableEntry.{TableEntry}
use Rattle.bios_attr.specs.declared.table_entry.TableEntry.TheVariants.{String, Attribute, Value}
use Rattle.bios_attr.specs.ValueEntry.{shown_type, entry_bytes, IsByteList}
use Rattle.bios_attr.specs.ValueEntryLaws.{entry_told, type_back, bit_back}
use Rattle.bios_attr.specs.StringEntry.{piece, string_at}
use Rattle.bios_attr.specs.AttributeEntry.{attribute_bytes, attribute_at}
use Rattle.bios_attr.specs.EntryLaws.{comes_of, piece_back, piece_told, fits_eight, mapped, small_front, string_back, string_told, attribute_back, attribute_told}
use Rattle.bios_attr.specs.TableEntry.{value_size, value_at, table_of, written, IsWhole, IsEntryRead, entry_at}

-- ---- value entries, written, then read

size_back : (v : AttributeValue) (rest : List ℕ) → value_size (type_of_value v) (value_bytes v ++ rest) ≡ length (value_bytes v)
size_back (Indexes indexes) rest = omega arith
size_back (Text text) rest = omega (arith, number_back (length text))
size_back (Number n) rest = refl

value_entry_back : (entry : ValueEntry) (rest : List ℕ) → HasEightBytes entry.value → value_at (entry_bytes entry ++ rest) ≡ Some (entry, rest)
value_entry_back entry rest whole =
    let code : ℕ = shown_type entry.read_only (type_of_value entry.value) in
    let kind : ℕ = type_of_value entry.value in
    let bytes : List ℕ = value_bytes entry.value in
    let make : AttributeValue → List ℕ → ValueEntry × List ℕ = λ v rest. (record { attribute = number_of (entry.attribute % 256) (entry.attribute / 256); read_only = nat_le 128 code; value = v }, rest) in
    let next : ℕ → List ℕ → List ℕ → Option (ValueEntry × List ℕ) = λ kind value rest. option_map (λ v. make v rest) (value_in kind value) in
    let size : value_size kind (bytes ++ rest) ≡ length bytes = size_back entry.value rest in
    ap (λ (kind : ℕ). piece (value_size kind (bytes ++ rest)) (bytes ++ rest) (next kind)) (type_back entry.read_only entry.value)
    ∙ piece_back (value_size kind (bytes ++ rest)) bytes rest (next kind) size
    ∙ ap (option_map (λ v. make v rest)) (value_back entry.value whole)
    ∙ (λ i. Some (record { attribute = number_back entry.attribute i; read_only = bit_back entry.read_only entry.value i; value = entry.value }, rest))

-- ---- value entries, read, then written

pub value_fits : (code : ℕ) (bytes : List ℕ) (v : AttributeValue) → IsByteList bytes → (a b c : Bool)
    → (if a then indexes_in bytes else (if b then text_in bytes else (if c then number_in bytes else None))) ≡ Some v → HasEightBytes v
value_fits code [] v small true b c h = absurd cc
value_fits code (count ∷ indexes) v small true b c h =
    let here = comes_of (count == length indexes) (Some (Indexes indexes)) v h in
    let same : Indexes indexes ≡ v = cc in subst HasEightBytes same tt
value_fits code [] v small false true c h = absurd cc
value_fits code (low ∷ []) v small false true c h = absurd cc
value_fits code (low ∷ high ∷ text) v small false true c h =
    let here = comes_of (number_of low high == length text) (Some (Text text)) v h in
    let same : Text text ≡ v = cc in subst HasEightBytes same tt
value_fits code bytes v small false false true h =
    let here = comes_of (length bytes == 8) (Some (Number (from_le_bytes w64 bytes))) v h in
    let same : Number (from_le_bytes w64 bytes) ≡ v = cc in subst HasEightBytes same (fits_eight bytes small)
value_fits code bytes v small false false false h = absurd cc

-- an entry and what is behind it, as they were read from these bytes
record IsValueRead (bytes : List ℕ) (read : ValueEntry × List ℕ) : Type 0 where
  spelled : entry_bytes read.0 ++ read.1 ≡ bytes
  whole : HasEightBytes read.0.value

value_told : (bytes : List ℕ) (read : ValueEntry × List ℕ) → IsByteList bytes → value_at bytes ≡ Some read → IsValueRead bytes read
value_told [] read small h = absurd cc
value_told (low ∷ []) read small h = absurd cc
value_told (low ∷ high ∷ []) read small h = absurd cc
value_told (low ∷ high ∷ code ∷ bytes) read small h =
    let kind : ℕ = code % 128 in
    let size : ℕ = value_size kind bytes in
    let make : AttributeValue → ValueEntry = λ v. record { attribute = number_of low high; read_only = nat_le 128 code; value = v } in
    let next : List ℕ → List ℕ → Option (ValueEntry × List ℕ) = λ value rest. option_map (λ v. (make v, rest)) (value_in kind value) in
    let found = piece_told size bytes next read h in
    let got = mapped (λ v. (make v, drop size bytes)) (value_in kind (take size bytes)) read found.1 in
    let v : AttributeValue = got.0 in
    let front : List ℕ = low ∷ high ∷ code ∷ take size bytes in
    let small_behind : IsByteList bytes = λ i. small (suc (suc (suc i))) in
    let small_value : IsByteList (take size bytes) = small_front size bytes small_behind in
    let small_entry : IsByteList front = small_front (suc (suc (suc size))) (low ∷ high ∷ code ∷ bytes) small in
    let spelled : entry_bytes (make v) ≡ front = entry_told front (make v) small_entry (ap (option_map make) got.1) in
    subst (IsValueRead (low ∷ high ∷ code ∷ bytes)) got.2
    (record {
      spelled = ap (λ (xs : List ℕ). xs ++ drop size bytes) spelled ∙ ap (λ (xs : List ℕ). low ∷ high ∷ code ∷ xs) (take-append-drop size bytes);
      whole = value_fits kind (take size bytes) v small_value _ _ _ got.1;
    })

-- ---- entries of any table

pub entry_back : (entry : TableEntry) (rest : List ℕ) → IsWhole entry → entry_at (table_of entry) (written entry ++ rest) ≡ Some (entry, rest)
entry_back (String e) rest whole = ap (option_map (λ found. (String found.0, found.1))) (string_back e rest)
entry_back (Attribute e) rest whole = ap (option_map (λ found. (Attribute found.0, found.1))) (attribute_back e rest whole)
entry_back (Value e) rest whole = ap (option_map (λ found. (Value found.0, found.1))) (value_entry_back e rest whole)

pub entry_is_read : (t : BiosTable) (bytes : List ℕ) (read : TableEntry × List ℕ) → IsByteList bytes → entry_at t bytes ≡ Some read → IsEntryRead t bytes read
entry_is_read table.Strings bytes read small h =
    let found = mapped (λ (found : StringEntry × List ℕ). (String found.0, found.1)) (string_at bytes) read h in
    subst (IsEntryRead table.Strings bytes) found.2 (record { of_table = refl; spelled = string_told bytes found.0.0 found.0.1 small found.1; whole = tt })
entry_is_read table.Attributes bytes read small h =
    let found = mapped (λ (found : AttributeEntry × List ℕ). (Attribute found.0, found.1)) (attribute_at bytes) read h in
    let is = attribute_told bytes found.0.0 found.0.1 small found.1 in
    subst (IsEntryRead table.Attributes bytes) found.2 (record { of_table = refl; spelled = is.0; whole = is.1 })
entry_is_read table.Values bytes read small h =
    let found = mapped (λ (found : ValueEntry × List ℕ). (Value found.0, found.1)) (value_at bytes) read h in
    let is = value_told bytes found.0 small found.1 in
    subst (IsEntryRead table.Values bytes) found.2 (record { of_table = refl; spelled = is.spelled; whole = is.whole })

-- no entry has fewer than four bytes
fields_some : (entry : AttributeEntry) → 4 ≤ length (attribute_bytes entry)
fields_some entry = omega arith

value_some : (v : AttributeValue) → 1 ≤ length (value_bytes v)
value_some (Indexes indexes) = omega arith
value_some (Text text) = omega arith
value_some (Number n) = omega arith

pub four_or_more : (entry : TableEntry) → 4 ≤ length (written entry)
four_or_more (String e) = omega arith
four_or_more (Attribute e) = fields_some e
four_or_more (Value e) = omega (arith, value_some e.value)
