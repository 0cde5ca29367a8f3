use Rattle.std.proofs.Common.{◌≡◌, take}
use Rattle.toml.specs.View.{table_view}
use Rattle.text_check.specs.Known.{is_told_arrays}
use Rattle.text_check.proofs.notes.tell_arrays.Given as goal

abbrev pub invariant-loop-group : goal.invariant-loop-group
invariant-loop-group l = l.told ≡ is_told_arrays (take l.group-index l.arrays) (table_view l.tree)
