-- Masks of a byte, as sets of places 0 to 7: bit i stands for place i.
use Rattle.std.specs.Prelude.{ℕ, ◌<◌, zero, suc, Bool, true, ◌==◌, ◌&&◌, ◌||◌, not, IsTrue}
use Rattle.std.specs.Int.{bit_at}

-- the mask has the place
abbrev pub has : ℕ → ℕ → Bool
has mask place = bit_at mask place == 1

-- the set has each place of the mask
abbrev pub IsWithin : ℕ → ℕ → Type 0
IsWithin mask set = (place : ℕ) → place < 8 → IsTrue (has mask place) → IsTrue (has set place)

-- the test holds at each number below the bound
abbrev pub all_below : (ℕ → Bool) → ℕ → Bool
all_below test zero = true
all_below test (suc number) = test number && all_below test number

-- the test that the mask is within the set
unfoldable pub is_within : ℕ → ℕ → Bool
is_within mask set = all_below (λ place. not (has mask place) || has set place) 8
