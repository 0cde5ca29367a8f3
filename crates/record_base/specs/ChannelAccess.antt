-- Who gets in over a channel (IPMI 2.0, Set and Get Channel Access). A value has two bytes: the access in bits 5:0, of which 2:0 are the
-- mode, and the limit of privileges.
use Rattle.std.specs.Prelude.{◌≡◌, ℕ, ◌%◌, ◌<◌, ◌≤◌, List, length, slice_index}
use Rattle.record_base.specs.UserSizes.{least_privilege, most_privilege, most_mode}

-- a value that a store of a channel can have
pub record IsChannelAccess (value : List ℕ) : Type 0 where
  pub two : length value ≡ 2
  pub six_bits : slice_index value 0 < 64
  pub mode : slice_index value 0 % 8 ≤ most_mode
  pub least : least_privilege ≤ slice_index value 1
  pub most : slice_index value 1 ≤ most_privilege
