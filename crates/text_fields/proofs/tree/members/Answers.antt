use Rattle.std.proofs.Common.{◌≡◌, Some, rules}
use Rattle.toml.specs.Data.{as_array}
use Rattle.toml.specs.View.{view, array_view}
use Rattle.text_fields.proofs.Values.{list_of-view}
use Rattle.text_fields.proofs.tree.members.Goals as goal

pub returns-in-Some : goal.returns-in-Some
returns-in-Some c =
    let array = c.in-Some.array.now in
    let found : as_array (view c.args.value.now) ≡ Some (array_view array) = search (rules, c.in-Some.ensures) in
    rw (found, list_of-view array.items, c.as_slice.ensures.value)
