-- The members of arrays of a file beside those that were read.
use Rattle.std.proofs.Common.{◌≡◌, ℕ, zero, suc, ◌<◌, ◌≤◌, nat_le, length, get_or, map, List, [], ◌∷◌, Bool, true, ◌||◌, Option, Some, None, refl, sym, ap, ◌∙◌, arith, option_and_then, ◌+◌, ◌&&◌, take, ◌++◌, drop}
use Rattle.std.proofs.lemmas.Bool.{and_parts}
use Rattle.std.proofs.lemmas.Bool.Decides.{nat_tests}
use Rattle.std.proofs.lemmas.List.{length-map, length-take-le, take_more, drop_more, map-append}
use Rattle.std.proofs.lemmas.List.Folds.{list_all-map}
use Rattle.std.specs.List.{list_all, AllZip, list_any}
use Rattle.toml.specs.Data.{Data, Members}
use Rattle.toml.specs.View.{view}
use Rattle.toml.specs.declared.value.Value.{Value}
use Rattle.text_fields.specs.declared.row.Shape.TheVariants as shape
use Rattle.text_fields.specs.declared.row.Need.TheVariants as need
use Rattle.text_fields.specs.Trees.{in_field, natural, members, members_in, or_none}
use Rattle.text_fields.specs.Ranges.{passes, is_number, can_be, are_present, is_array_of, is_table}
use Rattle.text_fields.proofs.Rows.{Sound, not_false}
use Rattle.text_fields.specs.declared.field.Field.{Field}
use Rattle.std.proofs.lemmas.Slice.Zip.{AllZip-long, all_zipped_more}
use Rattle.record_base.specs.AttributeRangeLaws.{true_le}
use Rattle.text_fields.specs.Attributes.{is_below, are_indexes}

-- there are as many states as fields
as_many : (fields ds : List Data) → are_present fields ds ≡ true → length ds ≡ length fields
as_many [] [] all = refl
as_many (f ∷ fields) (d ∷ ds) all =
    let rest : length ds ≡ length fields = as_many fields ds (and_parts (can_be f d) (are_present fields ds) all).1 in
    omega (arith, rest)
as_many [] (d ∷ ds) all = cc
as_many (f ∷ fields) [] all = cc

pub same_lengths : (lists states : List Value) → are_present (map view lists) (map view states) ≡ true → length states ≡ length lists
same_lengths lists states all = sym (length-map states view) ∙ as_many (map view lists) (map view states) all ∙ length-map lists view

-- what holds of each holds of one
pub each_passes : {A : Type 0} (p : A → Bool) (xs : List A) (i : ℕ) (x : A) → list_all p xs ≡ true → i < length xs → x ≡ get_or xs i x → p x ≡ true
each_passes p [] i x all within is = absurd (omega arith)
each_passes p (y ∷ xs) zero x all within is = rw (ap p is) (and_parts (p y) (list_all p xs) all).0
each_passes p (y ∷ xs) (suc i) x all within is = each_passes p xs i x (and_parts (p y) (list_all p xs) all).1 (omega arith) is

-- so it does of one of the values of which it holds
pub each_view : (p : Data → Bool) (vs : List Value) (i : ℕ) (v : Value) → list_all p (map view vs) ≡ true → i < length vs → v ≡ get_or vs i v → p (view v) ≡ true
each_view p vs i v all = each_passes (λ (x : Value). p (view x)) vs i v (sym (list_all-map p view vs) ∙ all)

members_cases : (o : Option (List Data)) (most : ℕ) → passes (list_all is_table) o ≡ true → nat_le (length (or_none o)) most ≡ true
    → (list_all is_table (or_none o) ≡ true) × (length (or_none o) ≤ most)
members_cases (Some ds) most typed few = (typed, grind (arith, nat_tests))
members_cases None most typed few = cc

value_cases : (tree : Members) (field : Field) (most : ℕ) (o : Option Data) → in_field field tree ≡ o → Sound tree (record { 0 = field; 1 = shape.Tables most; 2 = need.Never })
    → (list_all is_table (or_none (option_and_then members o)) ≡ true) × (length (or_none (option_and_then members o)) ≤ most)
value_cases tree field most None is sound = (refl, omega arith)
value_cases tree field most (Some d) is sound =
    members_cases (members d) most
    (not_false (is_array_of is_table d) (rw is at sound.typed))
    (not_false (nat_le (length (or_none (members d))) most) (rw is at sound.within))

-- the members of an array of tables without a fault are so many tables at most
pub tables_of : (tree : Members) (field : Field) (most : ℕ) → Sound tree (record { 0 = field; 1 = shape.Tables most; 2 = need.Never })
    → (list_all is_table (members_in field tree) ≡ true) × (length (members_in field tree) ≤ most)
tables_of tree field most sound = value_cases tree field most (in_field field tree) refl sound

-- so many values were read
pub read_so_far : {A : Type 0} (Holds : Data → A → Type 0) (vs : List Value) (i : ℕ) (before : List A) → i ≤ length vs → AllZip Holds (map view (take i vs)) before → length before ≡ i
read_so_far Holds vs i before within zip = AllZip-long Holds (map view (take i vs)) before zip ∙ length-map (take i vs) view ∙ length-take-le i vs within

-- the list is as long at most, and has indexes
pub record Listed (most count : ℕ) (ds : List Data) : Type 0 where
  pub some : nat_le 1 (length ds) ≡ true
  pub few : length ds ≤ most
  pub all : list_all (λ d. is_below count (natural d)) ds ≡ true

pub listed : (most count : ℕ) (ds : List Data) → are_indexes most count ds ≡ true → Listed most count ds
listed most count ds are =
    let (some, more) = and_parts (nat_le 1 (length ds)) (nat_le (length ds) most && list_all (λ d. is_below count (natural d)) ds) are in
    let (few, all) = and_parts (nat_le (length ds) most) (list_all (λ d. is_below count (natural d)) ds) more in
    record { some = some; few = true_le (length ds) most few; all = all }

-- each value is what each passes
pub listed_view : (offset : ℕ) (vs : List Value) → list_any (λ value. is_number offset (view value)) vs ≡ list_any (is_number offset) (map view vs)
listed_view offset [] = refl
listed_view offset (v ∷ vs) = ap (λ b. is_number offset (view v) || b) (listed_view offset vs)

module _ (vs : List Value) (i : ℕ) (v : Value) (within : i < length vs) (is : v ≡ get_or vs i v) where
  pub taken_more : map view (take (i + 1) vs) ≡ map view (take i vs) ++ view v ∷ []
  taken_more = rw (take_more vs i v within, ← is, map-append)

  pub left_over : map view (drop i vs) ≡ view v ∷ map view (drop (i + 1) vs)
  left_over = rw (drop_more vs i v within, ← is)

  -- one more item that was read
  pub next_zip : {A : Type 0} (Holds : Data → A → Type 0) (before : List A) (a : A) → AllZip Holds (map view (take i vs)) before → Holds (view v) a
      → AllZip Holds (map view (take (i + 1) vs)) (before ++ a ∷ [])
  next_zip Holds before a zip holds = rw taken_more (all_zipped_more Holds (map view (take i vs)) before (view v) a zip holds)
