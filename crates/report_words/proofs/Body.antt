-- The entries of a table that are left behind those that have another number.
use Rattle.std.proofs.Common.{◌≡◌, ℕ, suc, ◌+◌, ◌<◌, ◌≤◌, ◌==◌, Bool, true, false, if◌then◌else◌, List, [], ◌∷◌, ◌++◌, length, Option, Some, None, sym, ◌∙◌, ap, subst, arith, length-append}
use Rattle.std.proofs.lemmas.List.{append_assoc}
use Rattle.std.proofs.lemmas.List.Concat.{flat_map-cons}
use Rattle.bios_attr.specs.declared.bios_table.BiosTable.{BiosTable}
use Rattle.bios_attr.specs.declared.table_entry.TableEntry.{TableEntry}
use Rattle.bios_attr.specs.ValueEntry.{IsByteList}
use Rattle.bios_attr.specs.TableEntry.{written, entry_at, AreEntriesOf, IsBody}
use Rattle.bios_attr.specs.TableEntryLaws.{entry_back, entry_is_read, four_or_more}
use Rattle.bios_attr.proofs.BodyFacts.{all_written}
use Rattle.report_words.specs.TableEntries.{FindsInBody, first_with, number_of}

-- the bytes are entries of the table and some padding, and the first of them that has the number is the one that is looked for
pub record Left (t : BiosTable) (rest : List ℕ) (number : ℕ) (found : Option TableEntry) : Type 0 where
  pub entries : List TableEntry
  pub pad : List ℕ
  pub of_table : AreEntriesOf t entries
  pub short : length pad < 4
  pub spelled : all_written entries ++ pad ≡ rest
  pub same : first_with number entries ≡ found

-- so it is of the bytes that are left, whatever entries the whole bytes are
pub record IsLeft (t : BiosTable) (bytes rest : List ℕ) (number : ℕ) : Type 0 where
  pub small : IsByteList rest
  pub left : (entries : List TableEntry) → IsBody t bytes entries → Left t rest number (first_with number entries)

some_same : {X : Type 0} (x y : X) → Some x ≡ Some y → x ≡ y
some_same x y h = cc

-- the first entry that is left is the one that is read
first_read : (t : BiosTable) (rest pad : List ℕ) (entry : TableEntry) (entries : List TableEntry) → AreEntriesOf t (entry ∷ entries) → all_written (entry ∷ entries) ++ pad ≡ rest
    → entry_at t rest ≡ Some (entry, all_written entries ++ pad)
first_read t rest pad entry entries of_table spelled =
    let first : all_written (entry ∷ entries) ++ pad ≡ written entry ++ (all_written entries ++ pad) =
    ap (λ (xs : List ℕ). xs ++ pad) (flat_map-cons written entry entries) ∙ append_assoc (written entry) (all_written entries) pad in
    subst (λ (xs : List ℕ). entry_at t xs ≡ Some (entry, all_written entries ++ pad)) (sym first ∙ spelled)
    (subst (λ (u : BiosTable). entry_at u (written entry ++ (all_written entries ++ pad)) ≡ Some (entry, all_written entries ++ pad)) of_table.0
    (entry_back entry (all_written entries ++ pad) of_table.1))

module _ (t : BiosTable) (rest pad : List ℕ) (number : ℕ) (found : Option TableEntry) (short : length pad < 4) where
  none_long : (entries : List TableEntry) → all_written [] ++ pad ≡ rest → 4 ≤ length rest → ⊥
  none_long entries spelled long =
      let same : length pad ≡ length rest = ap (λ (xs : List ℕ). length xs) spelled in omega (arith, same, long, short)

  module _ (behind : List ℕ) (entry : TableEntry) (read : entry_at t rest ≡ Some (entry, behind)) (long : 4 ≤ length rest) where
    pair_of : (first : TableEntry) (others : List TableEntry) → AreEntriesOf t (first ∷ others) → all_written (first ∷ others) ++ pad ≡ rest
        → ◌≡◌ {A = TableEntry × List ℕ} (first, all_written others ++ pad) (entry, behind)
    pair_of first others of_table spelled =
        some_same (first, all_written others ++ pad) (entry, behind) (sym (first_read t rest pad first others of_table spelled) ∙ read)

    -- it has another number, and the others are left
    passed : (number_of entry == number) ≡ false → (entries : List TableEntry) → AreEntriesOf t entries → all_written entries ++ pad ≡ rest → first_with number entries ≡ found
        → Left t behind number found
    passed other [] of_table spelled same = absurd (none_long [] spelled long)
    passed other (first ∷ others) of_table spelled same =
        let pair = pair_of first others of_table spelled in
        let is : (number_of first == number) ≡ false = ap (λ (x : TableEntry × List ℕ). number_of x.0 == number) pair ∙ other in record {
          entries = others;
          pad = pad;
          of_table = of_table.2;
          short = short;
          spelled = ap (λ (x : TableEntry × List ℕ). x.1) pair;
          same = sym (ap (λ (b : Bool). if b then Some first else first_with number others) is) ∙ same;
        }

    -- it is the one
    is_it : (number_of entry == number) ≡ true → (entries : List TableEntry) → AreEntriesOf t entries → all_written entries ++ pad ≡ rest → first_with number entries ≡ found
        → Some entry ≡ found
    is_it here [] of_table spelled same = absurd (none_long [] spelled long)
    is_it here (first ∷ others) of_table spelled same =
        let pair = pair_of first others of_table spelled in
        let is : (number_of first == number) ≡ true = ap (λ (x : TableEntry × List ℕ). number_of x.0 == number) pair ∙ here in
        ap (λ (x : TableEntry × List ℕ). Some x.0) (sym pair) ∙ sym (ap (λ (b : Bool). if b then Some first else first_with number others) is) ∙ same

  -- where none is read, the bytes are no entries
  unread : entry_at t rest ≡ None → 4 ≤ length rest → (entries : List TableEntry) → AreEntriesOf t entries → all_written entries ++ pad ≡ rest → ⊥
  unread none long [] of_table spelled = none_long [] spelled long
  unread none long (first ∷ others) of_table spelled =
      let both : None ≡ Some (first, all_written others ++ pad) = sym none ∙ first_read t rest pad first others of_table spelled in cc both

  -- fewer than four bytes are no entry
  over : length rest < 4 → (entries : List TableEntry) → AreEntriesOf t entries → all_written entries ++ pad ≡ rest → first_with number entries ≡ found → None ≡ found
  over few [] of_table spelled same = same
  over few (first ∷ others) of_table spelled same =
      let lengths : length (all_written (first ∷ others) ++ pad) ≡ length rest = ap (λ (xs : List ℕ). length xs) spelled in
      let front : length (all_written (first ∷ others)) ≡ length (written first) + length (all_written others) =
      ap (λ (xs : List ℕ). length xs) (flat_map-cons written first others) ∙ length-append (written first) (all_written others) in
      absurd (omega (arith, few, lengths, length-append (all_written (first ∷ others)) pad, front, four_or_more first))

-- ---- a turn of the loop, and how it ends

small_end : (xs rest : List ℕ) → IsByteList (xs ++ rest) → IsByteList rest
small_end [] rest small = small
small_end (x ∷ xs) rest small = small_end xs rest (λ i. small (suc i))

module _ (t : BiosTable) (bytes rest : List ℕ) (number : ℕ) (left : IsLeft t bytes rest number) where
  pub one_passed : (behind : List ℕ) (entry : TableEntry) → entry_at t rest ≡ Some (entry, behind) → 4 ≤ length rest → (number_of entry == number) ≡ false → IsLeft t bytes behind number
  one_passed behind entry read long other = record {
    small = small_end (written entry) behind (subst IsByteList (sym (entry_is_read t rest (entry, behind) left.small read).spelled) left.small);
    left = λ entries body. let at = left.left entries body in
        passed t rest at.pad number (first_with number entries) at.short behind entry read long other at.entries at.of_table at.spelled at.same;
  }

  pub one_found : (behind : List ℕ) (entry : TableEntry) → entry_at t rest ≡ Some (entry, behind) → 4 ≤ length rest → (number_of entry == number) ≡ true
      → FindsInBody t bytes number (Some entry)
  one_found behind entry read long here entries body =
      let at = left.left entries body in
      is_it t rest at.pad number (first_with number entries) at.short behind entry read long here at.entries at.of_table at.spelled at.same

  pub none_read : entry_at t rest ≡ None → 4 ≤ length rest → FindsInBody t bytes number None
  none_read none long entries body =
      let at = left.left entries body in
      absurd (unread t rest at.pad number (first_with number entries) at.short none long at.entries at.of_table at.spelled)

  pub none_left : length rest < 4 → FindsInBody t bytes number None
  none_left few entries body =
      let at = left.left entries body in
      over t rest at.pad number (first_with number entries) at.short few at.entries at.of_table at.spelled at.same
