-- A value entry that is written is read as itself, and the other way round.
use Rattle.std.proofs.Common.{◌≡◌, ℕ, suc, ◌+◌, ◌*◌, ◌/◌, ◌%◌, ◌<◌, List, [], ◌∷◌, length, Bool, true, false, ◌==◌, nat_le, if◌then◌else◌, Option, Some, None, refl, sym, ◌∙◌, ap, subst, arith}
use Rattle.std.specs.Option.{option_map}
use Rattle.std.specs.Int.{w64, from_le_bytes}
use Rattle.std.proofs.lemmas.Nat.{le_bytes_8}
use Rattle.std.proofs.lemmas.Bool.Decides.{nat_tests}
use Rattle.record_base.specs.InverseLaws.{tested_same}
use Rattle.record_base.specs.declared.attribute_value.AttributeValue.{AttributeValue}
use Rattle.record_base.specs.declared.attribute_value.AttributeValue.TheVariants.{Indexes, Text, Number}
use Rattle.record_base.specs.AttributeRangeLaws.{value_back, number_back}
use Rattle.bios_attr.specs.declared.value_entry.ValueEntry.{ValueEntry}
use Rattle.record_base.specs.AttributeValue.{number_of, enumeration_type, string_type, integer_type, type_of_value, value_bytes, indexes_in, text_in, number_in, value_in, HasEightBytes}
use Rattle.bios_attr.specs.ValueEntry.{shown_type, entry_bytes, entry_in, IsByteList}

-- where one of two comes, the test holds
comes_of : {X : Type 0} (b : Bool) (x y : X) → (if b then Some x else None) ≡ Some y → (b ≡ true) × (x ≡ y)
comes_of true x y h = (refl, cc)
comes_of false x y h = absurd cc

-- ---- written, then read

pub type_back : (read_only : Bool) (v : AttributeValue) → shown_type read_only (type_of_value v) % 128 ≡ type_of_value v
type_back true (Indexes indexes) = refl
type_back true (Text text) = refl
type_back true (Number n) = refl
type_back false (Indexes indexes) = refl
type_back false (Text text) = refl
type_back false (Number n) = refl

pub bit_back : (read_only : Bool) (v : AttributeValue) → nat_le 128 (shown_type read_only (type_of_value v)) ≡ read_only
bit_back true (Indexes indexes) = refl
bit_back true (Text text) = refl
bit_back true (Number n) = refl
bit_back false (Indexes indexes) = refl
bit_back false (Text text) = refl
bit_back false (Number n) = refl

pub entry_back : (entry : ValueEntry) → HasEightBytes entry.value → entry_in (entry_bytes entry) ≡ Some entry
entry_back entry small =
    let code : ℕ = shown_type entry.read_only (type_of_value entry.value) in
    let make : AttributeValue → ValueEntry = λ v. record { attribute = number_of (entry.attribute % 256) (entry.attribute / 256); read_only = nat_le 128 code; value = v } in
    ap (λ (kind : ℕ). option_map make (value_in kind (value_bytes entry.value))) (type_back entry.read_only entry.value)
    ∙ ap (option_map make) (value_back entry.value small)
    ∙ (λ i. Some (record { attribute = number_back entry.attribute i; read_only = bit_back entry.read_only entry.value i; value = entry.value }))

-- ---- read, then written

-- a value that is read of these bytes
pub record IsTold (code : ℕ) (bytes : List ℕ) (v : AttributeValue) : Type 0 where
  pub of_type : type_of_value v ≡ code
  pub spelled : value_bytes v ≡ bytes

indexes_told : (bytes : List ℕ) (v : AttributeValue) → indexes_in bytes ≡ Some v → IsTold enumeration_type bytes v
indexes_told [] v h = absurd cc
indexes_told (count ∷ indexes) v h =
    let here = comes_of (count == length indexes) (Indexes indexes) v h in
    subst (IsTold enumeration_type (count ∷ indexes)) here.1 (record { of_type = refl; spelled = ap (λ (n : ℕ). n ∷ indexes) (sym (tested_same _ _ here.0)) })

text_told : (bytes : List ℕ) (v : AttributeValue) → IsByteList bytes → text_in bytes ≡ Some v → IsTold string_type bytes v
text_told [] v small h = absurd cc
text_told (low ∷ []) v small h = absurd cc
text_told (low ∷ high ∷ text) v small h =
    let here = comes_of (number_of low high == length text) (Text text) v h in
    let long : low + 256 * high ≡ length text = tested_same _ _ here.0 in
    let is_low : length text % 256 ≡ low = omega (arith, long, small 0) in
    let is_high : length text / 256 ≡ high = omega (arith, long, small 0) in
    subst (IsTold string_type (low ∷ high ∷ text)) here.1 (record { of_type = refl; spelled = ap (λ (n : ℕ). n ∷ length text / 256 ∷ text) is_low ∙ ap (λ (n : ℕ). low ∷ n ∷ text) is_high })

number_told : (bytes : List ℕ) (v : AttributeValue) → IsByteList bytes → number_in bytes ≡ Some v → IsTold integer_type bytes v
number_told bytes v small h =
    let here = comes_of (length bytes == 8) (Number (from_le_bytes w64 bytes)) v h in
    subst (IsTold integer_type bytes) here.1 (record { of_type = refl; spelled = le_bytes_8 bytes (from_le_bytes w64 bytes) (tested_same _ _ here.0) small refl })

-- one of three comes, by its test
chosen : (code : ℕ) (bytes : List ℕ) (v : AttributeValue) → IsByteList bytes → (a b c : Bool) → (code == enumeration_type) ≡ a → (code == string_type) ≡ b → (code == integer_type) ≡ c
    → (if a then indexes_in bytes else (if b then text_in bytes else (if c then number_in bytes else None))) ≡ Some v → IsTold code bytes v
chosen code bytes v small true b c p q r h = subst (λ (n : ℕ). IsTold n bytes v) (sym (tested_same _ _ p)) (indexes_told bytes v h)
chosen code bytes v small false true c p q r h = subst (λ (n : ℕ). IsTold n bytes v) (sym (tested_same _ _ q)) (text_told bytes v small h)
chosen code bytes v small false false true p q r h = subst (λ (n : ℕ). IsTold n bytes v) (sym (tested_same _ _ r)) (number_told bytes v small h)
chosen code bytes v small false false false p q r h = absurd cc

pub value_told : (code : ℕ) (bytes : List ℕ) (v : AttributeValue) → IsByteList bytes → value_in code bytes ≡ Some v → IsTold code bytes v
value_told code bytes v small h = chosen code bytes v small _ _ _ refl refl refl h

shown_back : (high : Bool) (code : ℕ) → code < 256 → nat_le 128 code ≡ high → shown_type high (code % 128) ≡ code
shown_back true code small is = let above : 128 < code + 1 = grind (arith, nat_tests) in omega (arith, above)
shown_back false code small is = let below : code < 128 = grind (arith, nat_tests) in omega (arith, below)

mapped : (make : AttributeValue → ValueEntry) (o : Option AttributeValue) (entry : ValueEntry) → option_map make o ≡ Some entry → (v : AttributeValue) × (o ≡ Some v) × (make v ≡ entry)
mapped make (Some v) entry h = (v, refl, cc)
mapped make None entry h = absurd cc

pub entry_told : (bytes : List ℕ) (entry : ValueEntry) → IsByteList bytes → entry_in bytes ≡ Some entry → entry_bytes entry ≡ bytes
entry_told [] entry small h = absurd cc
entry_told (low ∷ []) entry small h = absurd cc
entry_told (low ∷ high ∷ []) entry small h = absurd cc
entry_told (low ∷ high ∷ code ∷ bytes) entry small h =
    let make : AttributeValue → ValueEntry = λ v. record { attribute = number_of low high; read_only = nat_le 128 code; value = v } in
    let found = mapped make (value_in (code % 128) bytes) entry h in
    let v : AttributeValue = found.0 in
    let is = value_told (code % 128) bytes v (λ i. small (suc (suc (suc i)))) found.1 in
    let is_low : (low + 256 * high) % 256 ≡ low = omega (arith, small 0) in
    let is_high : (low + 256 * high) / 256 ≡ high = omega (arith, small 0) in
    let is_code : shown_type (nat_le 128 code) (type_of_value v) ≡ code = ap (shown_type (nat_le 128 code)) is.of_type ∙ shown_back _ code (small 2) refl in
    subst (λ (e : ValueEntry). entry_bytes e ≡ low ∷ high ∷ code ∷ bytes) found.2
    (ap (λ (n : ℕ). n ∷ (low + 256 * high) / 256 ∷ shown_type (nat_le 128 code) (type_of_value v) ∷ value_bytes v) is_low
    ∙ ap (λ (n : ℕ). low ∷ n ∷ shown_type (nat_le 128 code) (type_of_value v) ∷ value_bytes v) is_high
    ∙ ap (λ (n : ℕ). low ∷ high ∷ n ∷ value_bytes v) is_code
    ∙ ap (λ (xs : List ℕ). low ∷ high ∷ code ∷ xs) is.spelled)
