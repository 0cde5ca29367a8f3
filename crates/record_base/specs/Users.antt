-- The users of a board (IPMI 2.0).
use Rattle.std.specs.Prelude.{◌≡◌, ◌≤◌, List, [], ◌∷◌, length, replicate}
use Rattle.record_base.specs.declared.user.User.{User}
use Rattle.record_base.specs.BoardSizes.{most_users}
use Rattle.record_base.specs.UserSizes.{user_name_size}
use Rattle.record_base.specs.InOrder.{AreNumbered}

-- there is a first user, who has no name
abbrev pub BeginUnnamed : List User → Type 0
BeginUnnamed [] = ⊥
BeginUnnamed (user ∷ users) = user.name ≡ replicate user_name_size 0

-- users of numbers 1, 2 and so on, of whom the first has no name
pub record AreUsers (users : List User) : Type 0 where
  pub unnamed : BeginUnnamed users
  pub few : length users ≤ most_users
  pub numbered : AreNumbered (λ user. user.number.number) 1 users
