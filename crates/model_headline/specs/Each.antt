-- What holds of each element of a list.
use Rattle.std.specs.Prelude.{List, [], ◌∷◌}

abbrev pub Each : {X : Type 0} → (X → Type 0) → List X → Type 0
Each Holds [] = Unit {0}
Each Holds (x ∷ xs) = Holds x × Each Holds xs
