-- The items of an array of a file beside those that were read.
use Rattle.std.proofs.Common.{◌≡◌, ◌≢◌, ℕ, ◌==◌, ◌+◌, ◌<◌, List, [], ◌∷◌, ◌++◌, map, length, get_or, take, drop, true, false, ◌||◌, Some, refl, ap, sym, ◌∙◌, arith}
use Rattle.std.proofs.lemmas.Bool.{false≢true}
use Rattle.std.proofs.lemmas.Bool.Decides.{nat_tests}
use Rattle.std.proofs.lemmas.List.Folds.{list_any_at}
use Rattle.std.proofs.lemmas.List.Quantifiers.{all_pairs_push}
use Rattle.std.proofs.lemmas.Slice.Zip.{AllZip-long}
use Rattle.std.specs.List.{list_any, AllZip}
use Rattle.toml.specs.Data.{Data, Members}
use Rattle.toml.specs.View.{view}
use Rattle.toml.specs.declared.value.Value.{Value}
use Rattle.record_base.specs.Distinct.{NamesDiffer}
use Rattle.text_fields.specs.declared.field.Field.{Field}
use Rattle.text_board.specs.declared.fault.FileFault.{FileFault}
use Rattle.text_board.specs.declared.fault.FileFault.TheVariants as file
use Rattle.text_board.specs.declared.fault.Item.{Item}
use Rattle.text_fields.specs.declared.row.Row.{Row}
use Rattle.text_fields.specs.Trees.{number_in, table_of}
use Rattle.text_fields.specs.Faults.{field_faults, first}
use Rattle.text_board.specs.Faults.{fault_at, is_taken, same_number, item_faults}
use Rattle.text_fields.proofs.First.{first-append}
use Rattle.text_fields.proofs.Members.{left_over, taken_more}

equal_test : (a b : ℕ) → a ≡ b → (a == b) ≡ true
equal_test a b same = grind (arith, nat_tests)

module _ {A : Type 0} (Holds : Data → A → Type 0) (item_at : ℕ → Item) (rows : Members → List Row) (named : Field) (number_of : A → ℕ) (numbered : (d : Data) (a : A) → Holds d a → number_in named (table_of d) ≡ Some (number_of a)) where
  -- a fault of a member's fields counts
  pub field_first : (seen ds : List Data) (d : Data) (before : List A) (why : FileFault) → AllZip Holds seen before
      → first (map (fault_at (item_at (length before))) (field_faults (rows (table_of d)) (table_of d))) ≡ Some why
      → first (item_faults item_at rows named seen (d ∷ ds)) ≡ Some why
  field_first seen ds d before why zip is = first-append _ _ why (rw (AllZip-long Holds seen before zip) at is)

  taken_as : (seen : List Data) (before : List A) (n : ℕ) → AllZip Holds seen before
      → list_any (λ other. same_number (number_in named (table_of other)) (Some n)) seen ≡ list_any (λ (other : A). number_of other == n) before
  taken_as [] [] n zip = refl
  taken_as [] (a ∷ before) n zip = absurd zip
  taken_as (x ∷ seen) [] n zip = absurd zip
  taken_as (x ∷ seen) (a ∷ before) n zip = rw (numbered x a zip.0) (ap (λ b. (number_of a == n) || b) (taken_as seen before n zip.1))

  -- a number is taken where an item before has it
  taken : (seen : List Data) (before : List A) (d : Data) (n : ℕ) → AllZip Holds seen before → number_in named (table_of d) ≡ Some n
      → is_taken named seen d ≡ list_any (λ (other : A). number_of other == n) before
  taken seen before d n zip is = ap (λ o. list_any (λ other. same_number (number_in named (table_of other)) o) seen) is ∙ taken_as seen before n zip

  -- a number that is taken counts
  pub taken_first : (seen ds : List Data) (d : Data) (before : List A) (n : ℕ) → AllZip Holds seen before → field_faults (rows (table_of d)) (table_of d) ≡ []
      → number_in named (table_of d) ≡ Some n → list_any (λ (other : A). number_of other == n) before ≡ true
      → first (item_faults item_at rows named seen (d ∷ ds)) ≡ Some (file.Twice (record { item = item_at (length before); field = named }))
  taken_first seen ds d before n zip sound is some =
      rw (sound, taken seen before d n zip is ∙ some, AllZip-long Holds seen before zip)

  -- a member without a fault leaves the faults to those behind it
  pub sound_next : (seen ds : List Data) (d : Data) (before : List A) (n : ℕ) → AllZip Holds seen before → field_faults (rows (table_of d)) (table_of d) ≡ []
      → number_in named (table_of d) ≡ Some n → list_any (λ (other : A). number_of other == n) before ≡ false
      → item_faults item_at rows named seen (d ∷ ds) ≡ item_faults item_at rows named (seen ++ d ∷ []) ds
  sound_next seen ds d before n zip sound is none = rw (sound, taken seen before d n zip is ∙ none)

-- the faults of all are those of the ones from this place on, behind those before
abbrev pub AreLeft : (ℕ → Item) → (Members → List Row) → Field → List Value → ℕ → Type 0
AreLeft item_at rows named vs i =
    item_faults item_at rows named [] (map view vs) ≡ item_faults item_at rows named (map view (take i vs)) (map view (drop i vs))

-- behind the last there is none
pub none_left : (i : ℕ) (vs : List Value) (item_at : ℕ → Item) (rows : Members → List Row) (named : Field) → drop i vs ≡ [] → AreLeft item_at rows named vs i
    → item_faults item_at rows named [] (map view vs) ≡ []
none_left i vs item_at rows named none left = left ∙ ap (λ more. item_faults item_at rows named (map view (take i vs)) (map view more)) none

module _ (vs : List Value) (i : ℕ) (v : Value) (within : i < length vs) (is : v ≡ get_or vs i v) where
  -- a fault that counts here counts among all
  pub fault_here : (item_at : ℕ → Item) (rows : Members → List Row) (named : Field) (why : FileFault) → AreLeft item_at rows named vs i
      → first (item_faults item_at rows named (map view (take i vs)) (view v ∷ map view (drop (i + 1) vs))) ≡ Some why
      → first (item_faults item_at rows named [] (map view vs)) ≡ Some why
  fault_here item_at rows named why left counts =
      ap first (left ∙ ap (item_faults item_at rows named (map view (take i vs))) (left_over vs i v within is)) ∙ counts

  module _ {A : Type 0} (Holds : Data → A → Type 0) (item_at : ℕ → Item) (rows : Members → List Row) (named : Field) (number_of : A → ℕ) (numbered : (d : Data) (a : A) → Holds d a → number_in named (table_of d) ≡ Some (number_of a)) where
    -- the faults of those that are left
    pub next_left : (before : List A) (a : A) → AllZip Holds (map view (take i vs)) before → Holds (view v) a → field_faults (rows (table_of (view v))) (table_of (view v)) ≡ []
        → list_any (λ (other : A). number_of other == number_of a) before ≡ false → AreLeft item_at rows named vs i → AreLeft item_at rows named vs (i + 1)
    next_left before a zip holds sound none left =
        left
        ∙ ap (item_faults item_at rows named (map view (take i vs))) (left_over vs i v within is)
        ∙ sound_next Holds item_at rows named number_of numbered (map view (take i vs)) (map view (drop (i + 1) vs)) (view v) before (number_of a) zip sound (numbered (view v) a holds) none
        ∙ ap (λ seen. item_faults item_at rows named seen (map view (drop (i + 1) vs))) (sym (taken_more vs i v within is))

-- one more number, which none had
pub next_differs : {A : Type 0} (number_of : A → ℕ) (before : List A) (a : A) → NamesDiffer number_of before → list_any (λ (other : A). number_of other == number_of a) before ≡ false
    → NamesDiffer number_of (before ++ a ∷ [])
next_differs number_of before a differ none =
    all_pairs_push (λ a b. number_of a ≢ number_of b) before a differ
    (λ k d within same.
    let some = list_any_at (λ other. number_of other == number_of a) before k d within (equal_test (number_of (get_or before k d)) (number_of a) same) in
    false≢true (sym none ∙ some))
