-- The division of the CRC-32, as a register of 32 coefficients makes it.
use Rattle.std.specs.Prelude.{ℕ, Bool, List}
use Rattle.two_wire.specs.Polynomial.{plus, IsRemainder}
use Rattle.two_wire.specs.Bits.{bits}
use Rattle.pldm_base.specs.Crc.{divisor}

-- what is still to be divided: the register's coefficients, added to the front of what follows
unfoldable pub loaded : ℕ → List Bool → List Bool
loaded register rest = plus (bits 32 register) rest

-- a remainder of the second is one of the first
pub record ReducesTo (before after : List Bool) : Type 0 where
  pub remainder : (r : List Bool) → IsRemainder divisor after r → IsRemainder divisor before r
