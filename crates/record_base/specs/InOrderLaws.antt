-- Items that are numbered in order.
use Rattle.std.proofs.Common.{◌≡◌, ℕ, zero, suc, ◌+◌, ◌<◌, List, [], ◌∷◌, ◌++◌, length, get_or, arith}
use Rattle.std.proofs.Props.{props}
use Rattle.record_base.specs.Distinct.{NamesDiffer}
use Rattle.record_base.specs.InOrder.{AreNumbered}

module _ {X : Type 0} (number_of : X → ℕ) where
  pub AreNumbered-prop : (n : ℕ) (items : List X) → IsProp (AreNumbered number_of n items)
  AreNumbered-prop n [] = hlevel props
  AreNumbered-prop n (item ∷ items) = let rest = AreNumbered-prop (n + 1) items in hlevel (props, rest)

  -- one more item at the end
  pub numbered_more : (n : ℕ) (items : List X) (item : X) → AreNumbered number_of n items → number_of item ≡ n + length items
      → AreNumbered number_of n (items ++ item ∷ [])
  numbered_more n [] item all is = (omega (arith, is), tt)
  numbered_more n (x ∷ items) item all is = (all.0, numbered_more (n + 1) items item all.1 (omega (arith, is)))

  -- the number of the item at a place
  pub number_at : (n : ℕ) (items : List X) → AreNumbered number_of n items → (k : ℕ) (d : X) → k < length items → number_of (get_or items k d) ≡ n + k
  number_at n [] all k d within = absurd (omega arith)
  number_at n (x ∷ items) all zero d within = omega (arith, all.0)
  number_at n (x ∷ items) all (suc k) d within = let at = number_at (n + 1) items all.1 k d (omega arith) in omega (arith, at)

  -- no two of them have one number
  pub numbered_differ : (n : ℕ) (items : List X) → AreNumbered number_of n items → NamesDiffer number_of items
  numbered_differ n items all i j d below within same =
      let first = number_at n items all i d (omega arith) in
      let second = number_at n items all j d within in
      omega (arith, first, second, same, below)
