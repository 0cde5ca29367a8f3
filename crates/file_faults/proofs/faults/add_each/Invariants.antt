use Rattle.std.specs.List.{All}
use Rattle.toml.specs.View.{table_view}
use Rattle.file_faults.specs.Firsts.{IsFirstIn}
use Rattle.file_faults.proofs.faults.add_each.Given as goal

abbrev pub invariant-loop-place : goal.invariant-loop-place
invariant-loop-place l = All (IsFirstIn (table_view l.tree)) l.faults.items
