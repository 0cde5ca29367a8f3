-- The first of the faults that count.
use Rattle.std.proofs.Common.{◌≡◌, List, [], ◌∷◌, ◌++◌, map, Bool, true, false, cond, Some, None, refl, ap, sym, ◌∙◌}
use Rattle.std.proofs.lemmas.List.{append-nil}
use Rattle.std.specs.List.{filter, find}
use Rattle.toml.specs.Data.{Members}
use Rattle.text_fields.specs.declared.row.Row.{Row}
use Rattle.text_fields.specs.declared.fault.FieldFault.TheVariants as fault
use Rattle.text_fields.specs.Faults.{is_missing, is_mistyped, is_beyond, field_faults, first}

-- where one is found, it counts
found_here : {A B : Type 0} (b : Bool) (x : A) (f : A → B) (p : A → Bool) (xs : List A) (ys : List B) (y : A)
    → (find p xs ≡ Some y → first (map f (filter p xs) ++ ys) ≡ Some (f y))
    → cond b (Some x) (find p xs) ≡ Some y → first (map f (cond b (x ∷ filter p xs) (filter p xs)) ++ ys) ≡ Some (f y)
found_here true x f p xs ys y next is = let same : x ≡ y = cc in rw same
found_here false x f p xs ys y next is = next is

pub found : {A B : Type 0} (f : A → B) (p : A → Bool) (xs : List A) (ys : List B) (y : A) → find p xs ≡ Some y → first (map f (filter p xs) ++ ys) ≡ Some (f y)
found f p [] ys y is = cc
found f p (x ∷ xs) ys y is = found_here (p x) x f p xs ys y (found f p xs ys y) is

-- where none is found, those behind count
none_here : {A B : Type 0} (b : Bool) (x : A) (f : A → B) (p : A → Bool) (xs : List A) (ys : List B)
    → (find p xs ≡ None → map f (filter p xs) ++ ys ≡ ys)
    → cond b (Some x) (find p xs) ≡ None → map f (cond b (x ∷ filter p xs) (filter p xs)) ++ ys ≡ ys
none_here true x f p xs ys next is = cc
none_here false x f p xs ys next is = next is

pub none_found : {A B : Type 0} (f : A → B) (p : A → Bool) (xs : List A) (ys : List B) → find p xs ≡ None → map f (filter p xs) ++ ys ≡ ys
none_found f p [] ys is = refl
none_found f p (x ∷ xs) ys is = none_here (p x) x f p xs ys (none_found f p xs ys) is

module _ (rows : List Row) (tree : Members) where
  -- a missing field counts first
  pub missing_first : (row : Row) → find (is_missing tree) rows ≡ Some row → first (field_faults rows tree) ≡ Some (fault.Missing row.0)
  unfolding field_faults
  missing_first row is = found (λ (r : Row). fault.Missing r.0) (is_missing tree) rows _ row is

  -- then one of another type
  pub mistyped_first : (row : Row) → find (is_missing tree) rows ≡ None → find (is_mistyped tree) rows ≡ Some row → first (field_faults rows tree) ≡ Some (fault.WrongType row.0)
  unfolding field_faults
  mistyped_first row all is =
      ap first (none_found (λ (r : Row). fault.Missing r.0) (is_missing tree) rows _ all)
      ∙ found (λ (r : Row). fault.WrongType r.0) (is_mistyped tree) rows _ row is

  -- then those out of their ranges
  pub beyond_next : find (is_missing tree) rows ≡ None → find (is_mistyped tree) rows ≡ None → field_faults rows tree ≡ map (λ (r : Row). fault.Range r.0) (filter (is_beyond tree) rows)
  unfolding field_faults
  beyond_next all typed =
      none_found (λ (r : Row). fault.Missing r.0) (is_missing tree) rows _ all
      ∙ none_found (λ (r : Row). fault.WrongType r.0) (is_mistyped tree) rows _ typed

  pub beyond_first : (row : Row) → find (is_missing tree) rows ≡ None → find (is_mistyped tree) rows ≡ None → find (is_beyond tree) rows ≡ Some row
      → first (field_faults rows tree) ≡ Some (fault.Range row.0)
  beyond_first row all typed is =
      ap first (beyond_next all typed ∙ sym (append-nil _)) ∙ found (λ (r : Row). fault.Range r.0) (is_beyond tree) rows [] row is

  -- else there is none
  pub sound : find (is_missing tree) rows ≡ None → find (is_mistyped tree) rows ≡ None → find (is_beyond tree) rows ≡ None → first (field_faults rows tree) ≡ None
  sound all typed within =
      ap first (beyond_next all typed ∙ sym (append-nil _) ∙ none_found (λ (r : Row). fault.Range r.0) (is_beyond tree) rows [] within)

-- a list in which nothing counts
pub empty : {A : Type 0} (xs : List A) → first xs ≡ None → xs ≡ []
empty [] none = refl
empty (x ∷ xs) none = cc

-- what counts among faults of an item
pub first-map : {A B : Type 0} (f : A → B) (xs : List A) (x : A) → first xs ≡ Some x → first (map f xs) ≡ Some (f x)
first-map f [] x is = cc
first-map f (y ∷ xs) x is = let same : y ≡ x = cc in rw same

-- what counts in a list counts where more stands behind
pub first-append : {A : Type 0} (xs ys : List A) (x : A) → first xs ≡ Some x → first (xs ++ ys) ≡ Some x
first-append [] ys x is = cc
first-append (y ∷ xs) ys x is = is
