-- Users in files.
use Rattle.std.specs.Prelude.{ℕ, ◌-◌, List, [], ◌∷◌, length, ◌++◌, replicate, nat_le, Bool, true, false, ◌&&◌, if◌then◌else◌, Option, Some, None, is_some, option_and_then}
use Rattle.std.specs.List.{list_all}
use Rattle.record_base.specs.BoardSizes.{most_users}
use Rattle.record_base.specs.UserSizes.{user_name_size}
use Rattle.toml.specs.Data.{Data, as_str}

-- the bytes of a name, behind which there is 00h: none for a longer one
abbrev pub padded : List ℕ → Option (List ℕ)
padded text = if nat_le (length text) user_name_size then Some (text ++ replicate (user_name_size - length text) 0) else None

-- the name that a value is
abbrev pub name_of : Data → Option (List ℕ)
name_of d = option_and_then padded (as_str d)

-- a text without bytes
abbrev pub is_empty : Option (List ℕ) → Bool
is_empty (Some []) = true
is_empty _ = false

-- the first is a user without a name
abbrev pub begins_unnamed : List Data → Bool
begins_unnamed (d ∷ ds) = is_empty (as_str d)
begins_unnamed [] = false

-- the names of 1 to `most_users` users, of whom the first has none
abbrev pub are_names : List Data → Bool
are_names ds = nat_le (length ds) most_users && (begins_unnamed ds && list_all (λ d. is_some (name_of d)) ds)
