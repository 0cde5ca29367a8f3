-- The CRC-32 of IEEE 802.3.
use Rattle.std.specs.Prelude.{◌≡◌, ℕ, ◌^◌, ◌<◌, Bool, not, List, ◌++◌, take, drop, map}
use Rattle.std.specs.List.{flat_map}
use Rattle.two_wire.specs.Bits.{bits, highest_first, number_of}
use Rattle.two_wire.specs.Polynomial.{zeros, IsRemainder, remainder_of}

-- the divisor: the powers 32, 26, 23, 22, 16, 12, 11, 10, 8, 7, 5, 4, 2, 1 and 0
unfoldable pub divisor : List Bool
divisor = highest_first 33 0x104C11DB7

-- the first so many bits inverted
abbrev pub front_inverted : ℕ → List Bool → List Bool
front_inverted count xs = map not (take count xs) ++ drop count xs

-- the bits of the bytes, each byte's lowest bit first, and 32 zeros
unfoldable pub lengthened : List ℕ → List Bool
lengthened bytes = flat_map (bits 8) bytes ++ zeros 32

-- what is divided: those bits, the first 32 inverted
unfoldable pub dividend : List ℕ → List Bool
dividend bytes = front_inverted 32 (lengthened bytes)

-- the number is the CRC-32 of the bytes: the remainder inverted, its highest power being bit 0
pub record IsCrc32 (bytes : List ℕ) (crc : ℕ) : Type 0 where
  pub remainder : List Bool
  pub divided : IsRemainder divisor (dividend bytes) remainder
  pub small : crc < 2 ^ 32
  pub spelled : bits 32 crc ≡ map not remainder

-- that number, by long division
unfoldable pub crc_of : List ℕ → ℕ
crc_of bytes = number_of (map not (remainder_of divisor (dividend bytes)))
