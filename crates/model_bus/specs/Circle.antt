-- The circle of numbers of a bus.
use Rattle.std.specs.Prelude.{ℕ}
use Rattle.two_wire.specs.Circles.{sequence_numbers, instances}
use Rattle.two_wire.specs.declared.Bus.{Bus}
use Rattle.two_wire.specs.declared.Bus.TheVariants.{Ipmb, Smbus}

-- how many numbers there are
abbrev pub circle_of : Bus → ℕ
circle_of Ipmb = sequence_numbers
circle_of Smbus = instances

-- how many newer requests make a frame too old: 32 on IPMB, 8 on SMBus
abbrev pub span_of : Bus → ℕ
span_of Ipmb = 32
span_of Smbus = 8
