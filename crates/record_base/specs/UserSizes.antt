-- The numbers of users and channels (IPMI 2.0).
use Rattle.std.specs.Prelude.{ℕ, ◌%◌, Bool, nat_le, ◌&&◌}

-- how many bytes the name of a user has
abbrev pub user_name_size : ℕ
user_name_size = 16

-- the limits of privileges: callback is the least, and OEM the greatest
abbrev pub least_privilege : ℕ
least_privilege = 1

abbrev pub most_privilege : ℕ
most_privilege = 5

-- the limit of a user who may do nothing on a channel
abbrev pub no_access : ℕ
no_access = 15

-- the last access mode of a channel: shared. The first is 0.
abbrev pub most_mode : ℕ
most_mode = 3

-- a channel can have this limit of privileges
abbrev pub is_privilege : ℕ → Bool
is_privilege limit = nat_le least_privilege limit && nat_le limit most_privilege

-- the mode in bits 2:0 is one that a channel can have
abbrev pub has_mode : ℕ → Bool
has_mode access = nat_le (access % 8) most_mode
