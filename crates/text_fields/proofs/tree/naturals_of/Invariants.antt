use Rattle.std.proofs.Common.{◌≡◌, length, map, take, Some}
use Rattle.toml.specs.View.{view}
use Rattle.text_fields.specs.Trees.{naturals}
use Rattle.text_fields.proofs.tree.naturals_of.Given as goal

abbrev pub invariant-loop-place : goal.invariant-loop-place
invariant-loop-place g l = (length l.numbers ≡ g.row.N) × (naturals (map view (take l.place l.values)) ≡ Some (take l.place l.numbers))
