-- Lists that only grow.
use Rattle.std.proofs.Common.{◌≡◌, ℕ, suc, zero, ◌+◌, List, [], ◌∷◌, ◌++◌, length, Some, refl, ap, ◌⊎◌, inl, inr, length-append}
use Rattle.std.specs.Prelude.{slice_get}
use Rattle.std.proofs.lemmas.Option.{same_Some, none-some}

-- what stands in the one stands in the other, at the same place
abbrev pub Grows : {X : Type 0} → List X → List X → Type 0
Grows {X} xs ys = (n : ℕ) (x : X) → slice_get xs n ≡ Some x → slice_get ys n ≡ Some x

pub grows : {X : Type 0} (xs ys : List X) → Grows xs (xs ++ ys)
grows [] ys n x e = absurd (none-some x e)
grows (y ∷ xs) ys zero x e = e
grows (y ∷ xs) ys (suc n) x e = grows xs ys n x e

pub at_end : {X : Type 0} (xs : List X) (y : X) → slice_get (xs ++ y ∷ []) (length xs) ≡ Some y
at_end [] y = refl
at_end (x ∷ xs) y = at_end xs y

-- what stands in a list with one more stood there, or is the new one
pub one_more : {X : Type 0} (xs : List X) (y : X) (n : ℕ) (x : X) → slice_get (xs ++ y ∷ []) n ≡ Some x → (slice_get xs n ≡ Some x) ⊎ ((n ≡ length xs) × (y ≡ x))
one_more [] y zero x e = inr (refl, same_Some _ _ e)
one_more [] y (suc n) x e = absurd (none-some x e)
one_more (z ∷ xs) y zero x e = inl e
one_more (z ∷ xs) y (suc n) x e = elim (one_more xs y n x e) [ inl h ↦ inl h | inr h ↦ inr (ap suc h.0, h.1) ]

pub length_more : {X : Type 0} (xs : List X) (y : X) → length (xs ++ y ∷ []) ≡ length xs + 1
length_more xs y = length-append xs (y ∷ [])
