-- The bits of numbers.
use Rattle.std.specs.Prelude.{ℕ, zero, suc, ◌+◌, ◌*◌, ◌/◌, ◌%◌, ◌==◌, Bool, true, false, List, [], ◌∷◌, reverse}

-- so many bits of a number, the lowest first
unfoldable pub bits : ℕ → ℕ → List Bool
bits zero n = []
bits (suc count) n = (n % 2 == 1) ∷ bits count (n / 2)

-- the highest of them first
abbrev pub highest_first : ℕ → ℕ → List Bool
highest_first count n = reverse (bits count n)

-- the number that has the bits, the lowest first
unfoldable pub number_of : List Bool → ℕ
number_of [] = 0
number_of (true ∷ others) = 1 + 2 * number_of others
number_of (false ∷ others) = 2 * number_of others
