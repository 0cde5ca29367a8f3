use Rattle.std.proofs.Common.{◌≡◌, ◌≤◌, length, map, true, arith}
use Rattle.std.proofs.lemmas.List.{length-map}
use Rattle.std.proofs.lemmas.Slice.Zip.{AllZip-long}
use Rattle.record_base.specs.BoardSizes.{most_users}
use Rattle.toml.specs.View.{view}
use Rattle.text_fields.specs.Users.{are_names}
use Rattle.text_board.specs.Holds.{IsNameIn}
use Rattle.text_board.proofs.UserNames.{names_are, begin_unnamed}
use Rattle.text_board.proofs.users.users.Goals as goal

pub users_of-requires-clause-few : goal.users_of-requires-clause-few
users_of-requires-clause-few c =
    let are : are_names (map view c.members_of.result.now) ≡ true = rw (c.requires, ← c.members_of.ensures) at c.value.ensures.within in
    let few = (names_are (map view c.members_of.result.now) are).0 in
    let long = length-map c.members_of.result.now view in
    omega (arith, long, few)

pub users_of-requires-clause-named : goal.users_of-requires-clause-named
users_of-requires-clause-named c =
    let are : are_names (map view c.members_of.result.now) ≡ true = rw (c.requires, ← c.members_of.ensures) at c.value.ensures.within in
    (names_are (map view c.members_of.result.now) are).1.1

pub unwrap-requires : goal.unwrap-requires
unwrap-requires c =
    let ds = map view c.members_of.result.now in
    let users = c.in_ok-users.users.items in
    let are : are_names ds ≡ true = rw (c.requires, ← c.members_of.ensures) at c.value.ensures.within in
    let few : length users ≤ most_users = rw (AllZip-long IsNameIn ds users c.in_ok-users.ensures.names) (names_are ds are).0 in
    c.new.ensures.made.1 (record {
      unnamed = begin_unnamed ds users (names_are ds are).1.0 c.in_ok-users.ensures.names;
      few = few;
      numbered = c.in_ok-users.ensures.numbers;
    })
