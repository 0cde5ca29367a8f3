-- Channels in files.
use Rattle.std.specs.Prelude.{ℕ, ◌==◌, ◌%◌, Bool, ◌&&◌, ◌||◌, nat_lt, nat_le, List, if◌then◌else◌, Option, Some, None, option_and_then, codes}
use Rattle.std.specs.Str.{bytes_eq}
use Rattle.record_base.specs.declared.channel.AccessStore.{AccessStore}
use Rattle.record_base.specs.declared.channel.AccessStore.TheVariants.{NonVolatile, Volatile}
use Rattle.record_base.specs.UserAccess.{is_limit}
use Rattle.record_base.specs.UserSizes.{has_mode}
use Rattle.toml.specs.Data.{Data, as_str}

-- who gets in over a channel: bits 5:0, of which 2:0 are the mode
abbrev pub is_access : ℕ → Bool
is_access n = nat_lt n 64 && has_mode n

-- the number of a channel of a board
abbrev pub is_channel : ℕ → Bool
is_channel n = nat_le n 11 || (n == 15)

-- what a user may do: bits 6:4, and a limit in bits 3:0
abbrev pub is_user_byte : ℕ → Bool
is_user_byte n = nat_lt n 128 && is_limit (n % 16)

-- the store that a text names
abbrev pub store_named : List ℕ → Option AccessStore
store_named text =
    if bytes_eq text (codes "non-volatile") then Some NonVolatile else (if bytes_eq text (codes "volatile") then Some Volatile else None)

-- the store that a value names
abbrev pub store_of : Data → Option AccessStore
store_of d = option_and_then store_named (as_str d)
