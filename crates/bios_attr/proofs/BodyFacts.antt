-- Entries are read one by one up to the padding: what was read, and that nothing else could be.
use Rattle.std.proofs.Common.{◌≡◌, ◌≢◌, ℕ, zero, suc, ◌+◌, ◌-◌, ◌%◌, ◌<◌, ◌≤◌, List, [], ◌∷◌, ◌++◌, length, take, drop, Bool, true, false, ◌==◌, ◌&&◌, Some, None, Ok, Err, not, nat_eq, refl, sym, ◌∙◌, ap, subst, arith, length-append}
use Rattle.std.specs.Prelude.{Result, MatchResult, map}
use Rattle.std.specs.Cmp.Lexicographic.{pointwise, same_text, other_text}
use Rattle.std.specs.List.{flat_map, list_all}
use Rattle.std.proofs.lemmas.List.{append_assoc, length-take, length-take-le, take-append-drop}
use Rattle.std.proofs.Math.Seq.{take-append_seam, drop-append_seam}
use Rattle.std.specs.Int.{w32, to_le_bytes}
use Rattle.pldm_base.specs.Crc.{IsCrc32}
use Rattle.pldm_base.proofs.Register.{one-crc32}
use Rattle.std.proofs.lemmas.List.Concat.{flat_map-append, flat_map-cons}
use Rattle.record_base.specs.MaskLaws.{both_true}
use Rattle.record_base.specs.InverseLaws.{tested_same}
use Rattle.bios_attr.specs.declared.bios_table.BiosTable.{BiosTable}
use Rattle.bios_attr.specs.declared.table_entry.TableEntry.{TableEntry}
use Rattle.bios_attr.specs.declared.bios_table.BiosTable.TheVariants.{Strings}
use Rattle.bios_attr.specs.declared.whole_table.TableError.{TableError}
use Rattle.bios_attr.specs.declared.whole_table.TableError.TheVariants.{WrongLength, WrongCheck, NotAnEntry, WrongPadding}
use Rattle.bios_attr.specs.declared.string_entry.StringEntry.{StringEntry}
use Rattle.bios_attr.specs.declared.table_entry.TableEntry.TheVariants.{String}
use Rattle.bios_attr.specs.Attributes.{string_entries}
use Rattle.bios_attr.specs.StringEntry.{string_bytes}
use Rattle.bios_attr.specs.StringTable.{numbered}
use Rattle.bios_attr.specs.StringTableLaws.{numbered_entries}
use Rattle.bios_attr.specs.ValueEntry.{IsByteList}
use Rattle.bios_attr.specs.Tables.{padded, IsTable}
use Rattle.bios_attr.specs.TableEntry.{table_of, written, IsWhole, entry_at, AreEntriesOf, HasBody, IsNoBody, IsTableOf, HasEntries, IsNoTable, BeginsWith, IsBodyFault, IsChecked, HasLength, IsFault}
use Rattle.bios_attr.specs.TableEntryLaws.{entry_back, entry_is_read, four_or_more}

abbrev pub all_written : List TableEntry → List ℕ
all_written entries = flat_map written entries

-- entries of the table that are left, and some padding
pub record Left (t : BiosTable) (rest pad : List ℕ) : Type 0 where
  pub entries : List TableEntry
  pub of_table : AreEntriesOf t entries
  pub spelled : all_written entries ++ pad ≡ rest

-- what was read of the bytes, and that whatever they are read as goes on where this ends
pub record SoFar (t : BiosTable) (bytes rest : List ℕ) (count : ℕ) : Type 0 where
  pub before : List TableEntry
  pub of_table : AreEntriesOf t before
  pub counted : length before ≡ count
  pub spelled : all_written before ++ rest ≡ bytes
  pub few : count + length rest ≤ length bytes
  pub left : (entries : List TableEntry) (pad : List ℕ) → AreEntriesOf t entries → length pad < 4 → all_written entries ++ pad ≡ bytes → Left t rest pad

of_more : (t : BiosTable) (entries : List TableEntry) (entry : TableEntry) → AreEntriesOf t entries → table_of entry ≡ t → IsWhole entry → AreEntriesOf t (entries ++ entry ∷ [])
of_more t [] entry of_table is whole = (is, whole, tt)
of_more t (first ∷ entries) entry of_table is whole = (of_table.0, of_table.1, of_more t entries entry of_table.2 is whole)

some_same : {X : Type 0} (x y : X) → Some x ≡ Some y → x ≡ y
some_same x y h = cc

-- the first of entries is written first
first_written : (entry : TableEntry) (entries : List TableEntry) (pad : List ℕ) → all_written (entry ∷ entries) ++ pad ≡ written entry ++ (all_written entries ++ pad)
first_written entry entries pad = ap (λ (xs : List ℕ). xs ++ pad) (flat_map-cons written entry entries) ∙ append_assoc (written entry) (all_written entries) pad

-- entries that are left are read, the first of them first
left_read : (t : BiosTable) (rest pad : List ℕ) (entry : TableEntry) (entries : List TableEntry) → AreEntriesOf t (entry ∷ entries) → all_written (entry ∷ entries) ++ pad ≡ rest
    → entry_at t rest ≡ Some (entry, all_written entries ++ pad)
left_read t rest pad entry entries of_table spelled =
    subst (λ (xs : List ℕ). entry_at t xs ≡ Some (entry, all_written entries ++ pad)) (sym (first_written entry entries pad) ∙ spelled)
    (subst (λ (u : BiosTable). entry_at u (written entry ++ (all_written entries ++ pad)) ≡ Some (entry, all_written entries ++ pad)) of_table.0
    (entry_back entry (all_written entries ++ pad) of_table.1))

-- where an entry stands, the first that is left is it
goes_on : (t : BiosTable) (rest behind pad : List ℕ) (entry : TableEntry) → entry_at t rest ≡ Some (entry, behind) → 4 ≤ length rest → length pad < 4
    → (entries : List TableEntry) → AreEntriesOf t entries → all_written entries ++ pad ≡ rest → Left t behind pad
goes_on t rest behind pad entry read long short [] of_table spelled =
    let same : length pad ≡ length rest = ap (λ (xs : List ℕ). length xs) spelled in absurd (omega (arith, same, long, short))
goes_on t rest behind pad entry read long short (first ∷ entries) of_table spelled =
    let pair = some_same (first, all_written entries ++ pad) (entry, behind) (sym (left_read t rest pad first entries of_table spelled) ∙ read) in
    record { entries = entries; of_table = of_table.2; spelled = ap (λ (found : TableEntry × List ℕ). found.1) pair }

pub begins : (t : BiosTable) (bytes rest : List ℕ) (count : ℕ) → SoFar t bytes rest count → BeginsWith t bytes rest
begins t bytes rest count so_far = record { entries = so_far.before; of_table = so_far.of_table; spelled = so_far.spelled }

small_end : (xs rest : List ℕ) → IsByteList (xs ++ rest) → IsByteList rest
small_end [] rest small = small
small_end (x ∷ xs) rest small = small_end xs rest (λ i. small (suc i))

pub small_rest : (t : BiosTable) (bytes rest : List ℕ) (count : ℕ) → SoFar t bytes rest count → IsByteList bytes → IsByteList rest
small_rest t bytes rest count so_far small = small_end (all_written so_far.before) rest (subst IsByteList (sym so_far.spelled) small)

pub one_more : (t : BiosTable) (bytes rest behind : List ℕ) (count : ℕ) (entry : TableEntry) → SoFar t bytes rest count → IsByteList rest → 4 ≤ length rest → entry_at t rest ≡ Some (entry, behind) → SoFar t bytes behind (count + 1)
one_more t bytes rest behind count entry so_far small long read =
    let is = entry_is_read t rest (entry, behind) small read in
    let lengths : length (written entry ++ behind) ≡ length rest = ap (λ (xs : List ℕ). length xs) is.spelled in
    record {
      before = so_far.before ++ entry ∷ [];
      of_table = of_more t so_far.before entry so_far.of_table is.of_table is.whole;
      counted = length-append so_far.before (entry ∷ []) ∙ ap (λ (n : ℕ). n + 1) so_far.counted;
      spelled =
          ap (λ (xs : List ℕ). xs ++ behind) (flat_map-append written so_far.before (entry ∷ []))
          ∙ append_assoc (all_written so_far.before) (all_written (entry ∷ [])) behind
          ∙ ap (λ (xs : List ℕ). all_written so_far.before ++ xs) (first_written entry [] behind ∙ is.spelled)
          ∙ so_far.spelled;
      few = omega (arith, so_far.few, lengths, length-append (written entry) behind, four_or_more entry);
      left = λ entries pad of_table short spelled. let left = so_far.left entries pad of_table short spelled in goes_on t rest behind pad entry read long short left.entries left.of_table left.spelled;
    }

pub behind_less : (t : BiosTable) (rest behind : List ℕ) (entry : TableEntry) → IsByteList rest → entry_at t rest ≡ Some (entry, behind) → length behind < length rest
behind_less t rest behind entry small read =
    let is = entry_is_read t rest (entry, behind) small read in
    let lengths : length (written entry ++ behind) ≡ length rest = ap (λ (xs : List ℕ). length xs) is.spelled in
    omega (arith, lengths, length-append (written entry) behind, four_or_more entry)

-- ---- the padding

abbrev pub padding : List ℕ → List ℕ
padding entries = take ((4 - length entries % 4) % 4) (0 ∷ 0 ∷ 0 ∷ [])

abbrev are_zero : List ℕ → Bool
are_zero bytes = list_all (λ byte. byte == 0) bytes

padding_length : (entries : List ℕ) → length (padding entries) ≡ (4 - length entries % 4) % 4
padding_length entries = length-take ((4 - length entries % 4) % 4) (0 ∷ 0 ∷ 0 ∷ []) ∙ omega arith

padding_short : (entries : List ℕ) → length (padding entries) < 4
padding_short entries = omega (arith, padding_length entries)

zeros_are : (count : ℕ) → are_zero (take count (0 ∷ 0 ∷ 0 ∷ [])) ≡ true
zeros_are zero = refl
zeros_are (suc zero) = refl
zeros_are (suc (suc zero)) = refl
zeros_are (suc (suc (suc zero))) = refl
zeros_are (suc (suc (suc (suc count)))) = refl

zero_byte : (byte : ℕ) (rest : Bool) → ((byte == 0) && rest) ≡ true → (byte ≡ 0) × (rest ≡ true)
zero_byte byte rest h = let tests = both_true (byte == 0) rest h in (tested_same byte 0 tests.0, tests.1)

are_zeros : (bytes : List ℕ) → are_zero bytes ≡ true → length bytes < 4 → bytes ≡ take (length bytes) (0 ∷ 0 ∷ 0 ∷ [])
are_zeros [] h short = refl
are_zeros (a ∷ []) h short = let first = zero_byte a _ h in λ i. first.0 i ∷ []
are_zeros (a ∷ b ∷ []) h short = let first = zero_byte a _ h in let second = zero_byte b _ first.1 in λ i. first.0 i ∷ second.0 i ∷ []
are_zeros (a ∷ b ∷ c ∷ []) h short =
    let first = zero_byte a _ h in let second = zero_byte b _ first.1 in let third = zero_byte c _ second.1 in λ i. first.0 i ∷ second.0 i ∷ third.0 i ∷ []
are_zeros (a ∷ b ∷ c ∷ d ∷ bytes) h short = absurd (omega (arith, short))

-- ---- how reading ends

pub whole_body : (t : BiosTable) (bytes rest : List ℕ) (count : ℕ) → SoFar t bytes rest count → length bytes % 4 ≡ 0 → length rest < 4 → are_zero rest ≡ true → HasBody t bytes count
whole_body t bytes rest count so_far even short zeros =
    let entries : List ℕ = all_written so_far.before in
    let lengths : length (entries ++ rest) ≡ length bytes = ap (λ (xs : List ℕ). length xs) so_far.spelled in
    let missing : length rest ≡ (4 - length entries % 4) % 4 = omega (arith, even, short, lengths, length-append entries rest) in
    record {
      entries = so_far.before;
      counted = so_far.counted;
      is_body = record {
        of_table = so_far.of_table;
        spelled = ap (λ (xs : List ℕ). entries ++ xs) (sym (are_zeros rest zeros short ∙ ap (λ (n : ℕ). take n (0 ∷ 0 ∷ 0 ∷ [])) missing)) ∙ so_far.spelled;
      };
    }

-- what is left, where nothing could be read
none_left : (t : BiosTable) (rest pad : List ℕ) → entry_at t rest ≡ None → 4 ≤ length rest → length pad < 4 → (entries : List TableEntry) → AreEntriesOf t entries → all_written entries ++ pad ≡ rest → ⊥
none_left t rest pad none long short [] of_table spelled =
    let same : length pad ≡ length rest = ap (λ (xs : List ℕ). length xs) spelled in omega (arith, same, long, short)
none_left t rest pad none long short (entry ∷ entries) of_table spelled =
    let read = left_read t rest pad entry entries of_table spelled in absurd cc

pub no_entry : (t : BiosTable) (bytes rest : List ℕ) (count : ℕ) → SoFar t bytes rest count → 4 ≤ length rest → entry_at t rest ≡ None → IsNoBody t bytes
no_entry t bytes rest count so_far long none entries body =
    let pad : List ℕ = padding (all_written entries) in
    let left = so_far.left entries pad body.of_table (padding_short (all_written entries)) body.spelled in
    none_left t rest pad none long (padding_short (all_written entries)) left.entries left.of_table left.spelled

-- what is left, where it is shorter than an entry, is padding
only_padding : (t : BiosTable) (rest pad : List ℕ) → length rest < 4 → (entries : List TableEntry) → AreEntriesOf t entries → all_written entries ++ pad ≡ rest → pad ≡ rest
only_padding t rest pad short [] of_table spelled = spelled
only_padding t rest pad short (entry ∷ entries) of_table spelled =
    let lengths : length (written entry ++ (all_written entries ++ pad)) ≡ length rest = ap (λ (xs : List ℕ). length xs) (sym (first_written entry entries pad) ∙ spelled) in
    absurd (omega (arith, lengths, short, length-append (written entry) (all_written entries ++ pad), four_or_more entry))

pub no_padding : (t : BiosTable) (bytes rest : List ℕ) (count : ℕ) → SoFar t bytes rest count → length rest < 4 → are_zero rest ≡ false → IsNoBody t bytes
no_padding t bytes rest count so_far short other entries body =
    let pad : List ℕ = padding (all_written entries) in
    let left = so_far.left entries pad body.of_table (padding_short (all_written entries)) body.spelled in
    let is : pad ≡ rest = only_padding t rest pad short left.entries left.of_table left.spelled in
    let zeros : are_zero rest ≡ true = subst (λ (xs : List ℕ). are_zero xs ≡ true) is (zeros_are ((4 - length (all_written entries) % 4) % 4)) in
    absurd cc

-- ---- tables

-- a table is its entries with their padding, and four bytes
table_long : (entries bytes : List ℕ) → IsTable entries bytes → length bytes ≡ length (padded entries) + 4
table_long entries bytes is = ap (λ (xs : List ℕ). length xs) is.spelled ∙ length-append (padded entries) (to_le_bytes w32 is.crc)

table_front : (entries bytes : List ℕ) → IsTable entries bytes → take (length bytes - 4) bytes ≡ padded entries
table_front entries bytes is =
    let place : length bytes - 4 ≡ length (padded entries) = omega (arith, table_long entries bytes is) in
    ap (λ (n : ℕ). take n bytes) place ∙ ap (take (length (padded entries))) is.spelled ∙ take-append_seam (padded entries) (to_le_bytes w32 is.crc)

table_end : (entries bytes : List ℕ) (is : IsTable entries bytes) → drop (length bytes - 4) bytes ≡ to_le_bytes w32 is.crc
table_end entries bytes is =
    let place : length bytes - 4 ≡ length (padded entries) = omega (arith, table_long entries bytes is) in
    ap (λ (n : ℕ). drop n bytes) place ∙ ap (drop (length (padded entries))) is.spelled ∙ drop-append_seam (padded entries) (to_le_bytes w32 is.crc)

pub wrong_check : (t : BiosTable) (bytes : List ℕ) (crc : ℕ) → IsCrc32 (take (length bytes - 4) bytes) crc → drop (length bytes - 4) bytes ≢ to_le_bytes w32 crc → IsNoTable t bytes
wrong_check t bytes crc checked wrong entries is =
    let own : IsCrc32 (padded (all_written entries)) crc = subst (λ (xs : List ℕ). IsCrc32 xs crc) (table_front (all_written entries) bytes is.spelled) checked in
    wrong (table_end (all_written entries) bytes is.spelled ∙ ap (to_le_bytes w32) (one-crc32 (padded (all_written entries)) is.spelled.crc crc is.spelled.checked own))

-- no other number is the CRC-32 of the same bytes
pub unchecked : (bytes : List ℕ) (crc : ℕ) → IsCrc32 (take (length bytes - 4) bytes) crc → drop (length bytes - 4) bytes ≢ to_le_bytes w32 crc → (other : ℕ) → IsChecked bytes other → ⊥
unchecked bytes crc checked wrong other is = wrong (is.spelled ∙ ap (to_le_bytes w32) (one-crc32 (take (length bytes - 4) bytes) other crc is.checked checked))

pub no_body : (t : BiosTable) (bytes : List ℕ) → IsNoBody t (take (length bytes - 4) bytes) → IsNoTable t bytes
no_body t bytes none entries is = none entries (record { of_table = is.of_table; spelled = sym (table_front (all_written entries) bytes is.spelled) })

pub a_table : (t : BiosTable) (bytes : List ℕ) (crc count : ℕ) → IsCrc32 (take (length bytes - 4) bytes) crc → drop (length bytes - 4) bytes ≡ to_le_bytes w32 crc → HasBody t (take (length bytes - 4) bytes) count → HasEntries t bytes count
a_table t bytes crc count checked end body = record {
  entries = body.entries;
  counted = body.counted;
  is_table = record {
    of_table = body.is_body.of_table;
    spelled = record {
      crc = crc;
      checked = subst (λ (xs : List ℕ). IsCrc32 xs crc) (sym body.is_body.spelled) checked;
      spelled = sym (take-append-drop (length bytes - 4) bytes) ∙ (λ i. sym body.is_body.spelled i ++ end i);
    };
  };
}

pub even_body : (bytes : List ℕ) → 4 ≤ length bytes → length bytes % 4 ≡ 0 → length (take (length bytes - 4) bytes) % 4 ≡ 0
even_body bytes long even = omega (arith, length-take-le (length bytes - 4) bytes (omega arith), long, even)

-- a fault of what stands before the CRC-32 is one of the table
later_fault : (t : BiosTable) (bytes : List ℕ) (crc : ℕ) (error : TableError) → HasLength bytes → IsChecked bytes crc → IsBodyFault t (take (length bytes - 4) bytes) error → IsFault t bytes error
later_fault t bytes crc WrongLength sized checked fault = absurd fault
later_fault t bytes crc WrongCheck sized checked fault = absurd fault
later_fault t bytes crc NotAnEntry sized checked fault = (sized, (crc, checked), fault)
later_fault t bytes crc WrongPadding sized checked fault = (sized, (crc, checked), fault)

pub table_found : (t : BiosTable) (bytes body : List ℕ) (crc : ℕ) (r : Result ℕ TableError) → HasLength bytes → body ≡ take (length bytes - 4) bytes → IsCrc32 body crc → drop (length bytes - 4) bytes ≡ to_le_bytes w32 crc
    → MatchResult r (HasBody t body) (λ error. IsNoBody t body × IsBodyFault t body error) → MatchResult r (HasEntries t bytes) (λ error. IsNoTable t bytes × IsFault t bytes error)
table_found t bytes body crc (Ok count) sized is checked end has = a_table t bytes crc count (subst (λ (xs : List ℕ). IsCrc32 xs crc) is checked) end (subst (λ (xs : List ℕ). HasBody t xs count) is has)
table_found t bytes body crc (Err error) sized is checked end has = (
  no_body t bytes (subst (IsNoBody t) is has.0),
  later_fault t bytes crc error sized (record { checked = subst (λ (xs : List ℕ). IsCrc32 xs crc) is checked; spelled = end }) (subst (λ (xs : List ℕ). IsBodyFault t xs error) is has.1),
)

negated : (b : Bool) → not b ≡ false → true ≡ b
negated true h = refl
negated false h = absurd cc

unnegated : (b : Bool) → not b ≡ true → false ≡ b
unnegated true h = absurd cc
unnegated false h = refl

pub same_bytes : (xs ys : List ℕ) (b : Bool) → b ≡ not (pointwise nat_eq xs ys) → b ≡ false → xs ≡ ys
same_bytes xs ys b is h = same_text xs ys (let same : not (pointwise nat_eq xs ys) ≡ false = sym is ∙ h in negated (pointwise nat_eq xs ys) same)

pub other_bytes : (xs ys : List ℕ) (b : Bool) → b ≡ not (pointwise nat_eq xs ys) → b ≡ true → xs ≢ ys
other_bytes xs ys b is h = other_text xs ys (let same : not (pointwise nat_eq xs ys) ≡ true = sym is ∙ h in unnegated (pointwise nat_eq xs ys) same)

-- ---- a table has one list of entries

-- padding is no entries
not_padding : (entry : TableEntry) (entries : List TableEntry) (pad other : List ℕ) → length other < 4 → all_written (entry ∷ entries) ++ pad ≡ other → ⊥
not_padding entry entries pad other short same =
    let lengths : length (written entry ++ (all_written entries ++ pad)) ≡ length other = ap (λ (xs : List ℕ). length xs) (sym (first_written entry entries pad) ∙ same) in
    omega (arith, lengths, short, length-append (written entry) (all_written entries ++ pad), four_or_more entry)

one_list : (t : BiosTable) (entries others : List TableEntry) (pad padding : List ℕ) → AreEntriesOf t entries → AreEntriesOf t others → length pad < 4 → length padding < 4 → all_written entries ++ pad ≡ all_written others ++ padding → entries ≡ others
one_list t [] [] pad padding are also short small same = refl
one_list t [] (other ∷ others) pad padding are also short small same = absurd (not_padding other others padding pad short (sym same))
one_list t (entry ∷ entries) [] pad padding are also short small same = absurd (not_padding entry entries pad padding small same)
one_list t (entry ∷ entries) (other ∷ others) pad padding are also short small same =
    let rest : List ℕ = all_written (entry ∷ entries) ++ pad in
    let read = left_read t rest pad entry entries are refl in
    let read_too = left_read t rest padding other others also (sym same) in
    let pair = some_same (entry, all_written entries ++ pad) (other, all_written others ++ padding) (sym read ∙ read_too) in
    let first : entry ≡ other = ap (λ (found : TableEntry × List ℕ). found.0) pair in
    let behind : all_written entries ++ pad ≡ all_written others ++ padding = ap (λ (found : TableEntry × List ℕ). found.1) pair in
    let more : entries ≡ others = one_list t entries others pad padding are.2 also.2 short small behind in
    λ i. first i ∷ more i

pub one_table : (t : BiosTable) (entries others : List TableEntry) (bytes : List ℕ) → IsTableOf t entries bytes → IsTableOf t others bytes → entries ≡ others
one_table t entries others bytes is also =
    one_list t entries others (padding (all_written entries)) (padding (all_written others)) is.of_table also.of_table (padding_short (all_written entries)) (padding_short (all_written others))
    (sym (table_front (all_written entries) bytes is.spelled) ∙ table_front (all_written others) bytes also.spelled)

-- ---- the table of strings

strings_of_table : (strings : List StringEntry) → AreEntriesOf Strings (map String strings)
strings_of_table [] = tt
strings_of_table (entry ∷ strings) = (refl, tt, strings_of_table strings)

strings_written : (strings : List StringEntry) → all_written (map String strings) ≡ flat_map string_bytes strings
strings_written [] = refl
strings_written (entry ∷ strings) =
    flat_map-cons written (String entry) (map String strings) ∙ ap (λ (xs : List ℕ). string_bytes entry ++ xs) (strings_written strings) ∙ sym (flat_map-cons string_bytes entry strings)

pub string_table : (strings : List (List ℕ)) (bytes : List ℕ) → IsTable (string_entries 0 strings) bytes → IsTableOf Strings (map String (numbered 0 strings)) bytes
string_table strings bytes is = record {
  of_table = strings_of_table (numbered 0 strings);
  spelled = subst (λ (entries : List ℕ). IsTable entries bytes) (numbered_entries 0 strings ∙ sym (strings_written (numbered 0 strings))) is;
}
