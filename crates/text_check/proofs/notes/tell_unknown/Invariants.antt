use Rattle.std.proofs.Common.{◌≡◌, ◌||◌}
use Rattle.toml.specs.View.{members_view}
use Rattle.text_check.specs.Known.{has_unknown}
use Rattle.text_check.proofs.notes.tell_unknown.Given as goal

abbrev pub invariant-members : goal.invariant-members
invariant-members l =
    (goal.iterator-members).can_next l.key-iterator × (goal.iterator-members).is_finite l.key-iterator
    × ((l.told || has_unknown l.rows (members_view l.key-iterator)) ≡ has_unknown l.rows (members_view l.spot.table.now.entries))
