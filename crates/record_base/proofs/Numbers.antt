-- Items that have numbers of their own.
use Rattle.std.proofs.Common.{◌≡◌, ◌++◌, ◌∷◌, [], ℕ, ◌<◌, List, take, length, get_or, Bool, true, false, ◌==◌, arith, eq-eqb, sym, ◌∙◌}
use Rattle.std.specs.List.{list_any, Any}
use Rattle.std.proofs.lemmas.Bool.Decides.{nat_tests}
use Rattle.std.proofs.lemmas.List.Folds.{Any-from_list_any, list_any-from_Any}
use Rattle.record_base.specs.Distinct.{NamesDiffer}
use Rattle.record_base.proofs.Names.{NamesDiffer-more, NamesDiffer-twice}

same_number : (m n : ℕ) → (m == n) ≡ true → m ≡ n
same_number m n h = grind (arith, nat_tests)

opposite : (b : Bool) → b ≡ true → b ≡ false → ⊥
opposite b t f = cc

module _ {X : Type 0} (number_of : X → ℕ) where
  -- the item has the number
  abbrev pub has_number : ℕ → X → Bool
  has_number number = λ item. number_of item == number

  -- an item with the number of none before it
  pub numbers_differ-more : (items : List X) (item : X) (number : ℕ) → number ≡ number_of item → NamesDiffer number_of items → list_any (has_number number) items ≡ false → NamesDiffer number_of (items ++ item ∷ [])
  numbers_differ-more items item number its differ new =
      NamesDiffer-more number_of items item differ
      (λ any. opposite _ (list_any-from_Any (has_number number) items (any.0, any.1, any.2, any.3, eq-eqb _ _ (any.4 ∙ sym its))) new)

  -- an item with the number of one before it
  pub numbers_differ-twice : (items : List X) (place : ℕ) (item : X) (number : ℕ) → number ≡ number_of item → place < length items → item ≡ get_or items place item → list_any (has_number number) (take place items) ≡ true → ¬ NamesDiffer number_of items
  numbers_differ-twice items place item number its inside is taken =
      let any : Any (λ x. has_number number x ≡ true) (take place items) = Any-from_list_any (has_number number) (take place items) taken in
      NamesDiffer-twice number_of items place item inside is (any.0, any.1, any.2, any.3, same_number _ _ any.4 ∙ its)
