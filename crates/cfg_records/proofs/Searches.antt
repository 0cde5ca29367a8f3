-- The first element of a list that passes a test.
use Rattle.std.proofs.Common.{◌≡◌, ℕ, zero, suc, ◌<◌, List, [], ◌∷◌, length, get_or, Some, None, Bool, true, false, cond, refl, arith}
use Rattle.std.specs.List.{find}

none_at : {X : Type 0} (test : X → Bool) (x : X) (xs : List X) (b : Bool) → test x ≡ b → cond b (Some x) (find test xs) ≡ None → (k : ℕ) (d : X) → k < length (x ∷ xs)
    → (find test xs ≡ None → (k : ℕ) (d : X) → k < length xs → test (get_or xs k d) ≡ false) → test (get_or (x ∷ xs) k d) ≡ false
none_at test x xs true is none k d lt later = cc
none_at test x xs false is none zero d lt later = is
none_at test x xs false is none (suc k) d lt later = later none k d (omega arith)

-- where none is found, none passes
pub find_none : {X : Type 0} (test : X → Bool) (xs : List X) → find test xs ≡ None → (k : ℕ) (d : X) → k < length xs → test (get_or xs k d) ≡ false
find_none test [] none k d lt = absurd (omega arith)
find_none test (x ∷ xs) none k d lt = none_at test x xs (test x) refl none k d lt (find_none test xs)

-- what is found stands at a place of the list, and passes
pub record IsFoundAt {X : Type 0} (test : X → Bool) (xs : List X) (x : X) (k : ℕ) : Type 0 where
  pub inside : k < length xs
  pub is_it : (d : X) → get_or xs k d ≡ x
  pub passes : test x ≡ true

some_at : {X : Type 0} (test : X → Bool) (y : X) (xs : List X) (x : X) (b : Bool) → test y ≡ b → cond b (Some y) (find test xs) ≡ Some x
    → (find test xs ≡ Some x → (k : ℕ) × IsFoundAt test xs x k) → (k : ℕ) × IsFoundAt test (y ∷ xs) x k
some_at test y xs x true is found later = let same : y ≡ x = cc in (0, record { inside = omega arith; is_it = λ d. same; passes = cc })
some_at test y xs x false is found later = let at = later found in (suc at.0, record { inside = omega (arith, at.1.inside); is_it = at.1.is_it; passes = at.1.passes })

pub find_some : {X : Type 0} (test : X → Bool) (xs : List X) (x : X) → find test xs ≡ Some x → (k : ℕ) × IsFoundAt test xs x k
find_some test [] x found = cc
find_some test (y ∷ xs) x found = some_at test y xs x (test y) refl found (find_some test xs x)
