-- What a user may do on a channel (IPMI 2.0, Set and Get User Access). A value has one byte: bits 6:4 callback, link and messages, and the
-- limit of privileges in bits 3:0.
use Rattle.std.specs.Prelude.{◌≡◌, ℕ, ◌%◌, ◌<◌, List, length, slice_index, Bool, ◌==◌, ◌||◌, IsTrue}
use Rattle.record_base.specs.UserSizes.{no_access, is_privilege}

-- a limit of privileges: callback to OEM, or no access
abbrev pub is_limit : ℕ → Bool
is_limit n = is_privilege n || (n == no_access)

-- a value that a user can have
pub record IsUserAccess (value : List ℕ) : Type 0 where
  pub one : length value ≡ 1
  pub seven_bits : slice_index value 0 < 128
  pub limited : IsTrue (is_limit (slice_index value 0 % 16))
