-- The users of a board.
use Rattle.std.specs.Prelude.{List, [], ◌∷◌, replicate, refl}
use Rattle.std.proofs.Common.{lit<, lit≤}
use Rattle.std.proofs.Props.{props}
use Rattle.record_base.specs.declared.user.User.{User}
use Rattle.record_base.specs.UserSizes.{user_name_size}
use Rattle.record_base.specs.InOrderLaws.{AreNumbered-prop}
use Rattle.record_base.specs.Users.{BeginUnnamed, AreUsers}

BeginUnnamed-prop : (users : List User) → IsProp (BeginUnnamed users)
BeginUnnamed-prop [] = hlevel props
BeginUnnamed-prop (user ∷ users) = hlevel props

pub AreUsers-prop : (users : List User) → IsProp (AreUsers users)
AreUsers-prop users = hlevel (props, BeginUnnamed-prop, AreNumbered-prop)

-- user 1, who has no name
abbrev pub first_user : User
first_user = record { number = record { number = 1; below = lit< tt }; name = replicate user_name_size 0; sized = refl }

-- a board may have that user alone
pub one_user : AreUsers (first_user ∷ [])
one_user = record { unnamed = refl; few = lit≤ tt; numbered = (refl, tt) }
