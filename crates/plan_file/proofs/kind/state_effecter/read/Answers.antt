use Rattle.std.proofs.Common.{◌≡◌, true, map, arith}
use Rattle.std.proofs.lemmas.List.{length-map}
use Rattle.toml.specs.View.{view}
use Rattle.text_fields.specs.Ranges.{are_changes}
use Rattle.text_fields.proofs.StateChanges.{changes_are}
use Rattle.plan_file.proofs.kind.state_effecter.read.Goals as goal

pub changes_of-requires-clause-few : goal.changes_of-requires-clause-few
changes_of-requires-clause-few c =
    let are : are_changes (map view c.members_of.result.now) ≡ true = rw (c.requires, ← c.members_of.ensures) at c.value.ensures.within in
    let few = (changes_are (map view c.members_of.result.now) are).0 in
    let long = length-map c.members_of.result.now view in
    omega (arith, long, few)

pub changes_of-requires-clause-changes : goal.changes_of-requires-clause-changes
changes_of-requires-clause-changes c =
    let are : are_changes (map view c.members_of.result.now) ≡ true = rw (c.requires, ← c.members_of.ensures) at c.value.ensures.within in
    (changes_are (map view c.members_of.result.now) are).1
