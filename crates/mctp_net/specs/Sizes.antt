-- How many bytes a packet carries (DSP0236, the baseline transmission unit), and how much an assembler keeps.
use Rattle.std.specs.Prelude.{ℕ}

-- the payload of each packet of a message but the last
abbrev pub unit_size : ℕ
unit_size = 64

-- how many assemblies may be open at once
abbrev pub most_assemblies : ℕ
most_assemblies = 8
