use Rattle.std.proofs.Common.{◌≡◌, map, take}
use Rattle.std.specs.List.{list_any}
use Rattle.toml.specs.View.{view}
use Rattle.text_check.specs.Known.{is_told_at}
use Rattle.text_check.proofs.notes.tell_values.Given as goal

abbrev pub invariant-loop-place : goal.invariant-loop-place
invariant-loop-place l = l.told ≡ list_any (is_told_at l.group) (map view (take l.place l.values))
