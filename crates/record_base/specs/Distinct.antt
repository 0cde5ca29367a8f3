-- Items that have names of their own.
use Rattle.std.specs.Prelude.{◌≢◌, List, AllPairs}

-- no two items have the same name
abbrev pub NamesDiffer : {X N : Type 0} → (X → N) → List X → Type 0
NamesDiffer name items = AllPairs (λ a b. name a ≢ name b) items
