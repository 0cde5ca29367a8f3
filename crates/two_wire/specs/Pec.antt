-- The packet error code of the System Management Bus.
use Rattle.std.specs.Prelude.{ℕ, ◌<◌, Bool, List, ◌++◌, reverse}
use Rattle.std.specs.List.{flat_map}
use Rattle.two_wire.specs.Bits.{highest_first, number_of}
use Rattle.two_wire.specs.Polynomial.{zeros, IsRemainder, remainder_of}

-- the divisor: the powers 8, 2, 1 and 0
unfoldable pub divisor : List Bool
divisor = highest_first 9 0x107

-- what is divided: the bits of the bytes, each byte's highest bit first, and eight zeros
unfoldable pub dividend : List ℕ → List Bool
dividend bytes = flat_map (highest_first 8) bytes ++ zeros 8

-- the byte is the packet error code of the bytes: its bits are the remainder
pub record IsPec (bytes : List ℕ) (code : ℕ) : Type 0 where
  pub small : code < 256
  pub divided : IsRemainder divisor (dividend bytes) (highest_first 8 code)

-- that byte, by long division
unfoldable pub pec : List ℕ → ℕ
pec bytes = number_of (reverse (remainder_of divisor (dividend bytes)))
