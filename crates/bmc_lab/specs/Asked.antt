-- The frame that words of the command line name.
use Rattle.std.specs.Prelude.{◌≡◌, ◌≢◌, ℕ, List, [], Option, None, Some, Ok}
use Rattle.hex.specs.Hex.{decode_of}
use Rattle.two_wire.specs.declared.Bus.{Bus}
use Rattle.two_wire.specs.declared.Bus.TheVariants.{Ipmb}
use Rattle.two_wire.specs.Buses.{bus_name}

-- the word means the bus: it is the bus's name, or it is left out and the bus is IPMB
abbrev pub MeansBus : Option (List ℕ) → Bus → Type 0
MeansBus None bus = bus ≡ Ipmb
MeansBus (Some word) bus = word ≡ bus_name bus

-- the words name the bus and the bytes: the digits are two hexadecimal ones for each byte, and there is a byte
pub record AsksForBytes (word : Option (List ℕ)) (digits : List ℕ) (bus : Bus) (bytes : List ℕ) : Type 0 where
  pub means : MeansBus word bus
  pub spelt : decode_of digits ≡ Ok bytes
  pub some : bytes ≢ []
