-- Where a text is cut: lines at line feeds, words at spaces.
use Rattle.std.specs.Prelude.{◌≡◌, ◌≢◌, ℕ, List, ◌∷◌, ◌++◌, []}
use Rattle.std.specs.List.{AllByRecursion}

-- the byte that ends a line
abbrev pub line_feed : ℕ
line_feed = 10

-- the byte between two words
abbrev pub space : ℕ
space = 32

-- the mark isn't among the bytes
abbrev pub LacksByte : ℕ → List ℕ → Type 0
LacksByte mark bytes = AllByRecursion (λ byte. byte ≢ mark) bytes

-- the text is the front, a mark and the back, and this is its first mark
pub record CutsAt (mark : ℕ) (text front back : List ℕ) : Type 0 where
  pub parts : text ≡ front ++ mark ∷ back
  pub first : LacksByte mark front

-- a line, and the line feed that ends it
abbrev pub ended : List ℕ → List ℕ
ended line = line ++ line_feed ∷ []
