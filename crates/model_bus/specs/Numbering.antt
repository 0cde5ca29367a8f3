-- Sequence numbers and instances: how a bus numbers the manager's requests, and which number is above which.
use Rattle.std.specs.Prelude.{ℕ, ◌+◌, ◌-◌, ◌%◌, ◌/◌, Bool, nat_lt, nat_le, ◌&&◌}
use Rattle.two_wire.specs.Circles.{sequence_numbers, instances, tags}
use Rattle.two_wire.specs.declared.Bus.TheVariants.{Ipmb, Smbus}
use Rattle.model_bus.specs.Circle.{span_of}

-- going up from one number on a circle, how far the other is
abbrev pub distance : ℕ → ℕ → ℕ → ℕ
distance circle low high = (high + circle - low) % circle

-- a number is above another by less than half of the circle: 1 to 31 of 64 on IPMB, 1 to 15 of 32 for PLDM
abbrev pub is_above : ℕ → ℕ → ℕ → Bool
is_above circle low high = nat_lt 0 (distance circle low high) && nat_lt (distance circle low high) (circle / 2)

-- a number is one of the next half of the circle: the next 32 of 64 on IPMB, the next 16 of 32 for PLDM
abbrev pub is_next : ℕ → ℕ → ℕ → Bool
is_next circle low high = nat_lt 0 (distance circle low high) && nat_le (distance circle low high) (circle / 2)

-- what one bus fixes: both ends' addresses, the number of the manager's n-th request, which number is above which,
-- and the span: how many newer requests of the manager, once begun, make a frame too old
pub record Rules : Type 0 where
  pub manager : ℕ
  pub controller : ℕ
  pub number_of : ℕ → ℕ
  pub is_above : ℕ → ℕ → Bool
  pub span : ℕ

-- IPMB, for a manager whose requests count from `first`: sequence numbers
abbrev pub ipmb : ℕ → ℕ → ℕ → Rules
ipmb manager controller first = record { manager = manager; controller = controller; number_of = λ n. (first + n) % sequence_numbers; is_above = is_above sequence_numbers; span = span_of Ipmb }

-- PLDM over MCTP on SMBus: instances
abbrev pub smbus : ℕ → ℕ → ℕ → Rules
smbus manager controller first = record { manager = manager; controller = controller; number_of = λ n. (first + n) % instances; is_above = is_above instances; span = span_of Smbus }

-- the tag of the manager's n-th request on SMBus
abbrev pub tag_of : ℕ → ℕ → ℕ
tag_of first request = (first + request) % tags
