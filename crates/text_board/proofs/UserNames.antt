-- The users of a file.
use Rattle.std.proofs.Common.{◌≡◌, ℕ, ◌≤◌, nat_le, ◌&&◌, true, is_some, length, replicate, List, [], ◌∷◌, Option, Some, None, option_and_then, sym}
use Rattle.std.proofs.lemmas.Bool.{and_parts}
use Rattle.std.proofs.lemmas.Option.{same_Some}
use Rattle.std.specs.List.{list_all, AllZip}
use Rattle.record_base.specs.BoardSizes.{most_users}
use Rattle.record_base.specs.UserSizes.{user_name_size}
use Rattle.toml.specs.Data.{Data, as_str}
use Rattle.record_base.specs.declared.user.User.{User}
use Rattle.record_base.specs.AttributeRangeLaws.{true_le}
use Rattle.record_base.specs.Users.{BeginUnnamed}
use Rattle.text_fields.specs.Users.{padded, name_of, is_empty, begins_unnamed, are_names}
use Rattle.text_board.specs.Holds.{IsNameIn}

-- the names of users are `most_users` at most, of which the first is empty
pub names_are : (ds : List Data) → are_names ds ≡ true → (length ds ≤ most_users) × ((begins_unnamed ds ≡ true) × (list_all (λ d. is_some (name_of d)) ds ≡ true))
names_are ds are =
    let (few, named) = and_parts (nat_le (length ds) most_users) (begins_unnamed ds && list_all (λ d. is_some (name_of d)) ds) are in
    (true_le (length ds) most_users few, and_parts (begins_unnamed ds) (list_all (λ d. is_some (name_of d)) ds) named)

no_name : (text : Option (List ℕ)) (name : List ℕ) → is_empty text ≡ true → option_and_then padded text ≡ Some name → name ≡ replicate user_name_size 0
no_name (Some []) name empty named = sym (same_Some _ _ named)
no_name (Some (x ∷ xs)) name empty named = absurd cc
no_name None name empty named = absurd cc

-- the first user has no name
pub begin_unnamed : (ds : List Data) (users : List User) → begins_unnamed ds ≡ true → AllZip IsNameIn ds users → BeginUnnamed users
begin_unnamed [] users is zip = absurd cc
begin_unnamed (d ∷ ds) [] is zip = absurd zip
begin_unnamed (d ∷ ds) (user ∷ users) is zip = no_name (as_str d) user.name is zip.0
