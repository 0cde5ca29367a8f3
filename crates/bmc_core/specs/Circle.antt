-- The circles of numbers that windows are for.
use Rattle.std.specs.Prelude.{ℕ, Bool, ◌==◌, ◌||◌, if◌then◌else◌}
use Rattle.two_wire.specs.Circles.{sequence_numbers, instances}
use Rattle.model_bus.specs.Numbering.{is_next}

-- the sequence numbers of IPMB, or the instances of PLDM
abbrev pub is_circle : ℕ → Bool
is_circle numbers = (numbers == sequence_numbers) || (numbers == instances)

-- 1 where the number is one of the next half of the circle, which are forgotten when a request is carried out; else 0
abbrev pub next_bit : ℕ → ℕ → ℕ → ℕ
next_bit numbers low high = if is_next numbers low high then 1 else 0
