-- What holds of each element of a list, there and on.
use Rattle.std.proofs.Common.{◌≡◌, ℕ, suc, zero, List, [], ◌∷◌, ◌++◌, map, Some, refl, subst}
use Rattle.std.specs.Prelude.{slice_get}
use Rattle.std.proofs.lemmas.Option.{same_Some, none-some}
use Rattle.model_headline.specs.Each.{Each}

pub each_at : {X : Type 0} (Q : X → Type 0) (xs : List X) (n : ℕ) (x : X) → Each Q xs → slice_get xs n ≡ Some x → Q x
each_at Q [] n x all e = absurd (none-some x e)
each_at Q (y ∷ ys) zero x all e = subst Q (same_Some _ _ e) all.0
each_at Q (y ∷ ys) (suc n) x all e = each_at Q ys n x all.1 e

pub each_imply : {X : Type 0} (Q R : X → Type 0) (xs : List X) → ((x : X) → Q x → R x) → Each Q xs → Each R xs
each_imply Q R [] h all = tt
each_imply Q R (x ∷ xs) h all = (h x all.0, each_imply Q R xs h all.1)

pub each_by_place : {X : Type 0} (Q : X → Type 0) (xs : List X) → ((n : ℕ) (x : X) → slice_get xs n ≡ Some x → Q x) → Each Q xs
each_by_place Q [] h = tt
each_by_place Q (x ∷ xs) h = (h 0 x refl, each_by_place Q xs (λ n y e. h (suc n) y e))

pub each_append : {X : Type 0} (Q : X → Type 0) (xs ys : List X) → Each Q xs → Each Q ys → Each Q (xs ++ ys)
each_append Q [] ys all more = more
each_append Q (x ∷ xs) ys all more = (all.0, each_append Q xs ys all.1 more)

pub each_map : {X Y : Type 0} (v : X → Y) (Q : Y → Type 0) (xs : List X) → Each (λ x. Q (v x)) xs → Each Q (map v xs)
each_map v Q [] all = tt
each_map v Q (x ∷ xs) all = (all.0, each_map v Q xs all.1)
