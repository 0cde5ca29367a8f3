-- A string or an attribute entry that is written is read as itself, with what is behind it, and the other way round.
use Rattle.std.proofs.Common.{◌≡◌, ℕ, zero, suc, ◌+◌, ◌*◌, ◌/◌, ◌%◌, ◌<◌, ◌≤◌, ◌^◌, List, [], ◌∷◌, ◌++◌, length, take, drop, Bool, true, false, ◌==◌, nat_le, if◌then◌else◌, Option, Some, None, refl, sym, ◌∙◌, ap, subst, arith}
use Rattle.std.specs.Option.{option_map}
use Rattle.std.specs.Int.{w32, w64, to_le_bytes, from_le_bytes}
use Rattle.std.proofs.lemmas.List.{append_assoc, take-append-drop, length-append, length-drop, length-take-le, get_or-drop, drop-drop}
use Rattle.std.proofs.lemmas.Bool.Decides.{nat_tests}
use Rattle.std.proofs.Math.Seq.{take-append_seam, drop-append_seam}
use Rattle.std.proofs.lemmas.Nat.{from_le_bytes-to_le_bytes_4, from_le_bytes-to_le_bytes_8, le_bytes_4, le_bytes_8}
use Rattle.record_base.specs.InverseLaws.{tested_same}
use Rattle.record_base.specs.AttributeRangeLaws.{le_true, true_le, number_back}
use Rattle.record_base.specs.AttributeValue.{two_bytes, number_of, enumeration_type, string_type, integer_type}
use Rattle.bios_attr.specs.declared.string_entry.StringEntry.{StringEntry}
use Rattle.bios_attr.specs.declared.attribute_entry.AttributeEntry.{AttributeEntry}
use Rattle.bios_attr.specs.declared.attribute_entry.KindFields.{KindFields}
use Rattle.bios_attr.specs.declared.attribute_entry.KindFields.TheVariants.{Enumeration, Text, Integer}
use Rattle.bios_attr.specs.ValueEntry.{shown_type, IsByteList}
use Rattle.bios_attr.specs.StringEntry.{piece, string_bytes, string_at}
use Rattle.bios_attr.specs.AttributeEntry.{HasItsBytes, type_of_fields, fields_bytes, attribute_bytes, default_at, enumeration_at, text_at, numbers_in, integer_at, fields_at, attribute_at}

-- ---- pieces

pub fits : {X : Type 0} (b : Bool) (x : Option X) → b ≡ true → (if b then x else None) ≡ x
fits true x h = refl
fits false x h = absurd cc

pub comes_of : {X : Type 0} (b : Bool) (x : Option X) (y : X) → (if b then x else None) ≡ Some y → (b ≡ true) × (x ≡ Some y)
comes_of true x y h = (refl, h)
comes_of false x y h = absurd cc

pub piece_back : {X : Type 0} (count : ℕ) (xs ys : List ℕ) (make : List ℕ → List ℕ → Option X) → count ≡ length xs → piece count (xs ++ ys) make ≡ make xs ys
piece_back count xs ys make is =
    let within : nat_le (length xs) (length (xs ++ ys)) ≡ true = le_true _ _ (omega (arith, length-append xs ys)) in
    ap (λ (n : ℕ). piece n (xs ++ ys) make) is
    ∙ fits _ _ within
    ∙ (λ i. make (take-append_seam xs ys i) (drop-append_seam xs ys i))

pub piece_told : {X : Type 0} (count : ℕ) (bytes : List ℕ) (make : List ℕ → List ℕ → Option X) (x : X) → piece count bytes make ≡ Some x → (count ≤ length bytes) × (make (take count bytes) (drop count bytes) ≡ Some x)
piece_told count bytes make x h =
    let here = comes_of _ (make (take count bytes) (drop count bytes)) x h in
    (true_le _ _ here.0, here.1)

two_back : (low high : ℕ) (rest : List ℕ) → low < 256 → two_bytes (number_of low high) ++ rest ≡ low ∷ high ∷ rest
two_back low high rest small =
    let is_low : (low + 256 * high) % 256 ≡ low = omega (arith, small) in
    let is_high : (low + 256 * high) / 256 ≡ high = omega (arith, small) in
    λ i. is_low i ∷ is_high i ∷ rest

-- ---- string entries

pub string_back : (entry : StringEntry) (rest : List ℕ) → string_at (string_bytes entry ++ rest) ≡ Some (entry, rest)
string_back entry rest =
    piece_back (number_of (length entry.text % 256) (length entry.text / 256)) entry.text rest (λ text rest. Some (record { handle = number_of (entry.handle % 256) (entry.handle / 256); text = text }, rest)) (number_back (length entry.text))
    ∙ (λ i. Some (record { handle = number_back entry.handle i; text = entry.text }, rest))

pub string_told : (bytes : List ℕ) (entry : StringEntry) (rest : List ℕ) → IsByteList bytes → string_at bytes ≡ Some (entry, rest) → string_bytes entry ++ rest ≡ bytes
string_told [] entry rest small h = absurd cc
string_told (low ∷ []) entry rest small h = absurd cc
string_told (low ∷ high ∷ []) entry rest small h = absurd cc
string_told (low ∷ high ∷ a ∷ []) entry rest small h = absurd cc
string_told (low ∷ high ∷ a ∷ b ∷ bytes) entry rest small h =
    let count : ℕ = number_of a b in
    let found = piece_told count bytes (λ text rest. Some (record { handle = number_of low high; text = text }, rest)) (entry, rest) h in
    let read : StringEntry = record { handle = number_of low high; text = take count bytes } in
    let same : (read, drop count bytes) ≡ (entry, rest) = cc in
    let long : length (take count bytes) ≡ count = length-take-le count bytes found.0 in
    subst (λ (x : StringEntry × List ℕ). string_bytes x.0 ++ x.1 ≡ low ∷ high ∷ a ∷ b ∷ bytes) same
    (two_back low high (two_bytes (length (take count bytes)) ++ (take count bytes ++ drop count bytes)) (small 0)
    ∙ ap (λ (n : ℕ). low ∷ high ∷ (two_bytes n ++ (take count bytes ++ drop count bytes))) long
    ∙ ap (λ (xs : List ℕ). low ∷ high ∷ xs) (two_back a b (take count bytes ++ drop count bytes) (small 2))
    ∙ ap (λ (xs : List ℕ). low ∷ high ∷ a ∷ b ∷ xs) (take-append-drop count bytes))

-- ---- attribute entries, written, then read

fields_back : (kind : KindFields) (rest : List ℕ) → HasItsBytes kind → fields_at (type_of_fields kind) (fields_bytes kind ++ rest) ≡ Some (kind, rest)
fields_back (Enumeration e) rest pairs =
    ap (λ (xs : List ℕ). enumeration_at (length e.values / 2 ∷ xs)) (append_assoc e.values (length e.default ∷ e.default) rest)
    ∙ piece_back (2 * (length e.values / 2)) e.values (length e.default ∷ (e.default ++ rest)) default_at (sym pairs)
    ∙ piece_back (length e.default) e.default rest (λ default rest. Some (Enumeration (record { values = e.values; default = default }), rest)) refl
fields_back (Text t) rest tt =
    piece_back (number_of (length t.default % 256) (length t.default / 256)) t.default rest
    (λ default rest. Some (Text (record { string_type = t.string_type; least = number_of (t.least % 256) (t.least / 256); most = number_of (t.most % 256) (t.most / 256); default = default }), rest))
    (number_back (length t.default))
    ∙ (λ i. Some (Text (record { string_type = t.string_type; least = number_back t.least i; most = number_back t.most i; default = t.default }), rest))
fields_back (Integer n) rest small =
    let within : nat_le 28 (length (fields_bytes (Integer n) ++ rest)) ≡ true = le_true _ _ (omega arith) in
    fits _ _ within
    ∙ (λ i. Some (
      Integer (record {
        lower = from_le_bytes-to_le_bytes_8 n.lower small.lower i;
        upper = from_le_bytes-to_le_bytes_8 n.upper small.upper i;
        increment = from_le_bytes-to_le_bytes_4 n.increment small.increment i;
        default = from_le_bytes-to_le_bytes_8 n.default small.default i;
      }),
      rest,
    ))

type_back : (read_only : Bool) (kind : KindFields) → shown_type read_only (type_of_fields kind) % 128 ≡ type_of_fields kind
type_back true (Enumeration e) = refl
type_back true (Text t) = refl
type_back true (Integer n) = refl
type_back false (Enumeration e) = refl
type_back false (Text t) = refl
type_back false (Integer n) = refl

bit_back : (read_only : Bool) (kind : KindFields) → nat_le 128 (shown_type read_only (type_of_fields kind)) ≡ read_only
bit_back true (Enumeration e) = refl
bit_back true (Text t) = refl
bit_back true (Integer n) = refl
bit_back false (Enumeration e) = refl
bit_back false (Text t) = refl
bit_back false (Integer n) = refl

pub attribute_back : (entry : AttributeEntry) (rest : List ℕ) → HasItsBytes entry.kind → attribute_at (attribute_bytes entry ++ rest) ≡ Some (entry, rest)
attribute_back entry rest whole =
    let code : ℕ = shown_type entry.read_only (type_of_fields entry.kind) in
    let make : KindFields × List ℕ → AttributeEntry × List ℕ = λ found. (record { attribute = number_of (entry.attribute % 256) (entry.attribute / 256); read_only = nat_le 128 code; name = number_of (entry.name % 256) (entry.name / 256); kind = found.0 }, found.1) in
    ap (λ (kind : ℕ). option_map make (fields_at kind (fields_bytes entry.kind ++ rest))) (type_back entry.read_only entry.kind)
    ∙ ap (option_map make) (fields_back entry.kind rest whole)
    ∙ (λ i. Some (record { attribute = number_back entry.attribute i; read_only = bit_back entry.read_only entry.kind i; name = number_back entry.name i; kind = entry.kind }, rest))

-- ---- attribute entries, read, then written

record IsTold (code : ℕ) (bytes : List ℕ) (found : KindFields × List ℕ) : Type 0 where
  of_type : type_of_fields found.0 ≡ code
  spelled : fields_bytes found.0 ++ found.1 ≡ bytes
  whole : HasItsBytes found.0

small_behind : (count : ℕ) (bytes : List ℕ) → IsByteList bytes → IsByteList (drop count bytes)
small_behind count bytes small place = subst (λ (n : ℕ). n < 256) (sym (get_or-drop count bytes place 0)) (small (count + place))

some_same : {X : Type 0} (x y : X) → Some x ≡ Some y → x ≡ y
some_same x y h = cc

default_told : (values bytes : List ℕ) (found : KindFields × List ℕ) → default_at values bytes ≡ Some found → length values ≡ 2 * (length values / 2) → IsTold enumeration_type (length values / 2 ∷ (values ++ bytes)) found
default_told values [] found h even = absurd cc
default_told values (count ∷ bytes) found h even =
    let make : List ℕ → List ℕ → Option (KindFields × List ℕ) = λ default rest. Some (Enumeration (record { values = values; default = default }), rest) in
    let here = piece_told count bytes make found h in
    let long : length (take count bytes) ≡ count = length-take-le count bytes here.0 in
    subst (IsTold enumeration_type (length values / 2 ∷ (values ++ count ∷ bytes))) (some_same (Enumeration (record { values = values; default = take count bytes }), drop count bytes) found here.1)
    (record {
      of_type = refl;
      spelled = ap (λ (xs : List ℕ). length values / 2 ∷ xs)
          (append_assoc values (length (take count bytes) ∷ take count bytes) (drop count bytes)
          ∙ ap (λ (n : ℕ). values ++ n ∷ (take count bytes ++ drop count bytes)) long
          ∙ ap (λ (xs : List ℕ). values ++ count ∷ xs) (take-append-drop count bytes));
      whole = even;
    })

enumeration_told : (bytes : List ℕ) (found : KindFields × List ℕ) → enumeration_at bytes ≡ Some found → IsTold enumeration_type bytes found
enumeration_told [] found h = absurd cc
enumeration_told (count ∷ bytes) found h =
    let here = piece_told (2 * count) bytes default_at found h in
    let values : List ℕ = take (2 * count) bytes in
    let long : length values ≡ 2 * count = length-take-le (2 * count) bytes here.0 in
    let half : length values / 2 ≡ count = omega (arith, long) in
    let even : length values ≡ 2 * (length values / 2) = omega (arith, long) in
    let is = default_told values (drop (2 * count) bytes) found here.1 even in
    record {
      of_type = is.of_type;
      spelled = is.spelled ∙ ap (λ (n : ℕ). n ∷ (values ++ drop (2 * count) bytes)) half ∙ ap (λ (xs : List ℕ). count ∷ xs) (take-append-drop (2 * count) bytes);
      whole = is.whole;
    }

text_told : (bytes : List ℕ) (found : KindFields × List ℕ) → IsByteList bytes → text_at bytes ≡ Some found → IsTold string_type bytes found
text_told [] found small h = absurd cc
text_told (type ∷ []) found small h = absurd cc
text_told (type ∷ a ∷ []) found small h = absurd cc
text_told (type ∷ a ∷ b ∷ []) found small h = absurd cc
text_told (type ∷ a ∷ b ∷ c ∷ []) found small h = absurd cc
text_told (type ∷ a ∷ b ∷ c ∷ d ∷ []) found small h = absurd cc
text_told (type ∷ a ∷ b ∷ c ∷ d ∷ low ∷ []) found small h = absurd cc
text_told (type ∷ a ∷ b ∷ c ∷ d ∷ low ∷ high ∷ bytes) found small h =
    let count : ℕ = number_of low high in
    let make : List ℕ → List ℕ → Option (KindFields × List ℕ) = λ default rest. Some (Text (record { string_type = type; least = number_of a b; most = number_of c d; default = default }), rest) in
    let here = piece_told count bytes make found h in
    let long : length (take count bytes) ≡ count = length-take-le count bytes here.0 in
    let text : List ℕ = take count bytes ++ drop count bytes in
    subst (IsTold string_type (type ∷ a ∷ b ∷ c ∷ d ∷ low ∷ high ∷ bytes)) (some_same (Text (record { string_type = type; least = number_of a b; most = number_of c d; default = take count bytes }), drop count bytes) found here.1)
    (record {
      of_type = refl;
      spelled = ap (λ (xs : List ℕ). type ∷ xs)
          (two_back a b (two_bytes (number_of c d) ++ (two_bytes (length (take count bytes)) ++ text)) (small 1)
          ∙ ap (λ (xs : List ℕ). a ∷ b ∷ xs)
          (two_back c d (two_bytes (length (take count bytes)) ++ text) (small 3)
          ∙ ap (λ (xs : List ℕ). c ∷ d ∷ xs)
          (ap (λ (n : ℕ). two_bytes n ++ text) long
          ∙ two_back low high text (small 5)
          ∙ ap (λ (xs : List ℕ). low ∷ high ∷ xs) (take-append-drop count bytes))));
      whole = tt;
    })

pub small_front : (count : ℕ) (bytes : List ℕ) → IsByteList bytes → IsByteList (take count bytes)
small_front zero bytes small place = omega arith
small_front (suc count) [] small place = omega arith
small_front (suc count) (byte ∷ bytes) small zero = small 0
small_front (suc count) (byte ∷ bytes) small (suc place) = small_front count bytes (λ i. small (suc i)) place

pub fits_eight : (bytes : List ℕ) → IsByteList bytes → from_le_bytes w64 bytes < 2 ^ 64
fits_eight bytes small = omega (arith, small 0, small 1, small 2, small 3, small 4, small 5, small 6, small 7)

fits_four : (bytes : List ℕ) → IsByteList bytes → from_le_bytes w32 bytes < 2 ^ 32
fits_four bytes small = omega (arith, small 0, small 1, small 2, small 3)

-- so many bytes from a place on, and what is behind them
from_on : (from count next : ℕ) (bytes : List ℕ) → from + count ≡ next → take count (drop from bytes) ++ drop next bytes ≡ drop from bytes
from_on from count next bytes is =
    ap (λ (n : ℕ). take count (drop from bytes) ++ drop n bytes) (sym is)
    ∙ ap (λ (xs : List ℕ). take count (drop from bytes) ++ xs) (sym (drop-drop count from bytes))
    ∙ take-append-drop count (drop from bytes)

-- the bytes of a number that is read there
eight_back : (from : ℕ) (bytes : List ℕ) → IsByteList bytes → from + 8 ≤ length bytes → to_le_bytes w64 (from_le_bytes w64 (take 8 (drop from bytes))) ≡ take 8 (drop from bytes)
eight_back from bytes small long =
    le_bytes_8 (take 8 (drop from bytes)) _ (length-take-le 8 (drop from bytes) (omega (arith, length-drop from bytes, long))) (small_front 8 (drop from bytes) (small_behind from bytes small)) refl

four_back : (from : ℕ) (bytes : List ℕ) → IsByteList bytes → from + 4 ≤ length bytes → to_le_bytes w32 (from_le_bytes w32 (take 4 (drop from bytes))) ≡ take 4 (drop from bytes)
four_back from bytes small long =
    le_bytes_4 (take 4 (drop from bytes)) _ (length-take-le 4 (drop from bytes) (omega (arith, length-drop from bytes, long))) (small_front 4 (drop from bytes) (small_behind from bytes small)) refl

five_pieces : (a b c d e : List ℕ) → (a ++ (b ++ (c ++ d))) ++ e ≡ a ++ (b ++ (c ++ (d ++ e)))
five_pieces a b c d e =
    append_assoc a (b ++ (c ++ d)) e ∙ ap (λ (xs : List ℕ). a ++ xs) (append_assoc b (c ++ d) e ∙ ap (λ (xs : List ℕ). b ++ xs) (append_assoc c d e))

numbers_told : (bytes : List ℕ) → IsByteList bytes → 28 ≤ length bytes → fields_bytes (Integer (numbers_in bytes)) ++ drop 28 bytes ≡ bytes
numbers_told bytes small long =
    let lower : to_le_bytes w64 (from_le_bytes w64 (take 8 bytes)) ≡ take 8 bytes = eight_back 0 bytes small (omega (arith, long)) in
    let upper = eight_back 8 bytes small (omega (arith, long)) in
    let increment = four_back 16 bytes small (omega (arith, long)) in
    let default = eight_back 20 bytes small (omega (arith, long)) in
    let behind : List ℕ = drop 28 bytes in
    (λ i. (lower i ++ (upper i ++ (increment i ++ default i))) ++ behind)
    ∙ five_pieces (take 8 bytes) (take 8 (drop 8 bytes)) (take 4 (drop 16 bytes)) (take 8 (drop 20 bytes)) behind
    ∙ ap (λ (xs : List ℕ). take 8 bytes ++ (take 8 (drop 8 bytes) ++ (take 4 (drop 16 bytes) ++ xs))) (from_on 20 8 28 bytes refl)
    ∙ ap (λ (xs : List ℕ). take 8 bytes ++ (take 8 (drop 8 bytes) ++ xs)) (from_on 16 4 20 bytes refl)
    ∙ ap (λ (xs : List ℕ). take 8 bytes ++ xs) (from_on 8 8 16 bytes refl)
    ∙ take-append-drop 8 bytes

integer_told : (bytes : List ℕ) (found : KindFields × List ℕ) → IsByteList bytes → integer_at bytes ≡ Some found → IsTold integer_type bytes found
integer_told bytes found small h =
    let here = comes_of _ (Some (Integer (numbers_in bytes), drop 28 bytes)) found h in
    subst (IsTold integer_type bytes) (some_same (Integer (numbers_in bytes), drop 28 bytes) found here.1)
    (record {
      of_type = refl;
      spelled = numbers_told bytes small (true_le _ _ here.0);
      whole = record {
        lower = fits_eight (take 8 bytes) (small_front 8 bytes small);
        upper = fits_eight (take 8 (drop 8 bytes)) (small_front 8 (drop 8 bytes) (small_behind 8 bytes small));
        increment = fits_four (take 4 (drop 16 bytes)) (small_front 4 (drop 16 bytes) (small_behind 16 bytes small));
        default = fits_eight (take 8 (drop 20 bytes)) (small_front 8 (drop 20 bytes) (small_behind 20 bytes small));
      };
    })

-- one of three comes, by its test
chosen : (code : ℕ) (bytes : List ℕ) (found : KindFields × List ℕ) → IsByteList bytes → (a b c : Bool) → (code == enumeration_type) ≡ a → (code == string_type) ≡ b → (code == integer_type) ≡ c
    → (if a then enumeration_at bytes else (if b then text_at bytes else (if c then integer_at bytes else None))) ≡ Some found → IsTold code bytes found
chosen code bytes found small true b c p q r h = subst (λ (n : ℕ). IsTold n bytes found) (sym (tested_same _ _ p)) (enumeration_told bytes found h)
chosen code bytes found small false true c p q r h = subst (λ (n : ℕ). IsTold n bytes found) (sym (tested_same _ _ q)) (text_told bytes found small h)
chosen code bytes found small false false true p q r h = subst (λ (n : ℕ). IsTold n bytes found) (sym (tested_same _ _ r)) (integer_told bytes found small h)
chosen code bytes found small false false false p q r h = absurd cc

fields_told : (code : ℕ) (bytes : List ℕ) (found : KindFields × List ℕ) → IsByteList bytes → fields_at code bytes ≡ Some found → IsTold code bytes found
fields_told code bytes found small h = chosen code bytes found small _ _ _ refl refl refl h

shown_back : (high : Bool) (code : ℕ) → code < 256 → nat_le 128 code ≡ high → shown_type high (code % 128) ≡ code
shown_back true code small is = let above : 128 < code + 1 = grind (arith, nat_tests) in omega (arith, above)
shown_back false code small is = let below : code < 128 = grind (arith, nat_tests) in omega (arith, below)

pub mapped : {X Y : Type 0} (make : X → Y) (o : Option X) (y : Y) → option_map make o ≡ Some y → (x : X) × (o ≡ Some x) × (make x ≡ y)
mapped make (Some x) y h = (x, refl, cc)
mapped make None y h = absurd cc

-- an attribute entry and what is behind it, as they were read from these bytes
pub record IsReadFrom (bytes : List ℕ) (read : AttributeEntry × List ℕ) : Type 0 where
  pub spelled : attribute_bytes read.0 ++ read.1 ≡ bytes
  pub whole : HasItsBytes read.0.kind

read_from : (bytes : List ℕ) (read : AttributeEntry × List ℕ) → IsByteList bytes → attribute_at bytes ≡ Some read → IsReadFrom bytes read
read_from [] read small h = absurd cc
read_from (low ∷ []) read small h = absurd cc
read_from (low ∷ high ∷ []) read small h = absurd cc
read_from (low ∷ high ∷ code ∷ []) read small h = absurd cc
read_from (low ∷ high ∷ code ∷ a ∷ []) read small h = absurd cc
read_from (low ∷ high ∷ code ∷ a ∷ b ∷ bytes) read small h =
    let make : KindFields × List ℕ → AttributeEntry × List ℕ = λ found. (record { attribute = number_of low high; read_only = nat_le 128 code; name = number_of a b; kind = found.0 }, found.1) in
    let found = mapped make (fields_at (code % 128) bytes) read h in
    let kind : KindFields = found.0.0 in
    let behind : List ℕ = found.0.1 in
    let is = fields_told (code % 128) bytes found.0 (λ i. small (suc (suc (suc (suc (suc i)))))) found.1 in
    let is_code : shown_type (nat_le 128 code) (type_of_fields kind) ≡ code = ap (shown_type (nat_le 128 code)) is.of_type ∙ shown_back _ code (small 2) refl in
    subst (IsReadFrom (low ∷ high ∷ code ∷ a ∷ b ∷ bytes)) found.2
    (record {
      spelled =
          two_back low high (shown_type (nat_le 128 code) (type_of_fields kind) ∷ (two_bytes (number_of a b) ++ (fields_bytes kind ++ behind))) (small 0)
          ∙ ap (λ (n : ℕ). low ∷ high ∷ n ∷ (two_bytes (number_of a b) ++ (fields_bytes kind ++ behind))) is_code
          ∙ ap (λ (xs : List ℕ). low ∷ high ∷ code ∷ xs) (two_back a b (fields_bytes kind ++ behind) (small 3))
          ∙ ap (λ (xs : List ℕ). low ∷ high ∷ code ∷ a ∷ b ∷ xs) is.spelled;
      whole = is.whole;
    })

pub attribute_told : (bytes : List ℕ) (entry : AttributeEntry) (rest : List ℕ) → IsByteList bytes → attribute_at bytes ≡ Some (entry, rest) → (attribute_bytes entry ++ rest ≡ bytes) × HasItsBytes entry.kind
attribute_told bytes entry rest small h = let is = read_from bytes (entry, rest) small h in (is.spelled, is.whole)
