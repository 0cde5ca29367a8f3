-- The names of the buses.
use Rattle.std.specs.Prelude.{◌≡◌, ◌≢◌, ℕ, List, Option, Some, None, codes}
use Rattle.two_wire.specs.declared.bus.Bus.{Bus}
use Rattle.two_wire.specs.declared.bus.Bus.TheVariants.{Ipmb, Smbus}

-- a bus's name, in command lines and texts
abbrev pub bus_name : Bus → List ℕ
bus_name Ipmb = codes "ipmb"
bus_name Smbus = codes "smbus"

-- the word is this bus's name, or no bus's
abbrev pub IsNamed : (word : List ℕ) → Option Bus → Type 0
IsNamed word (Some bus) = word ≡ bus_name bus
IsNamed word None = (bus : Bus) → word ≢ bus_name bus
