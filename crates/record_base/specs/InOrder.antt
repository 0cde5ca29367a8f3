-- Items that are numbered in order.
use Rattle.std.specs.Prelude.{◌≡◌, ◌+◌, ℕ, List, [], ◌∷◌}

-- the items have the numbers from this one on
abbrev pub AreNumbered : {X : Type 0} → (X → ℕ) → ℕ → List X → Type 0
AreNumbered number_of n [] = Unit {0}
AreNumbered number_of n (item ∷ items) = (number_of item ≡ n) × AreNumbered number_of (n + 1) items
