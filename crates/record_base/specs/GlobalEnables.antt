-- The global enables (IPMI 2.0). A value has one byte, by the bits of Set BMC Global Enables: bit 3 says whether events go into the
-- log, and bit 4 is reserved.
use Rattle.std.specs.Prelude.{◌≡◌, ℕ, Bool, not, IsTrue, List, length, slice_index}
use Rattle.record_base.specs.Masks.{has}

-- the bit that no value has
abbrev pub reserved_place : ℕ
reserved_place = 4

-- the test that a byte is without it
abbrev pub are_enables : ℕ → Bool
are_enables byte = not (has byte reserved_place)

-- a value that the enables can have
pub record AreGlobalEnables (value : List ℕ) : Type 0 where
  pub one : length value ≡ 1
  pub unreserved : IsTrue (are_enables (slice_index value 0))
