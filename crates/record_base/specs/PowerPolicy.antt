-- The power restore policy (IPMI 2.0). A value has one byte: 0 stay off, 1 as before, 2 power up, 3 unknown.
use Rattle.std.specs.Prelude.{◌≡◌, ℕ, ◌≤◌, List, length, slice_index}

-- a value that the policy can have
pub record IsPowerPolicy (value : List ℕ) : Type 0 where
  pub one : length value ≡ 1
  pub known : slice_index value 0 ≤ 3
