use Rattle.std.proofs.Common.{◌≡◌, map, drop}
use Rattle.toml.specs.View.{view}
use Rattle.text_fields.specs.Ranges.{are_present}
use Rattle.text_fields.proofs.states.can_all_be.Given as goal

abbrev pub invariant-loop-place : goal.invariant-loop-place
invariant-loop-place l = are_present (map view l.lists) (map view l.states) ≡ are_present (map view (drop l.place l.lists)) (map view (drop l.place l.states))
