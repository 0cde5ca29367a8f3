-- Both ends of a bus.
use Rattle.std.specs.Prelude.{ℕ}

-- the addresses of both ends of a bus
pub record Addresses : Type 0 where
  pub manager : ℕ
  pub controller : ℕ
