use Rattle.std.proofs.Common.{map, take}
use Rattle.std.specs.List.{AllZip}
use Rattle.toml.specs.View.{view}
use Rattle.plan_file.specs.Kinds.StateEffecter.{IsChangeIn}
use Rattle.plan_file.proofs.kind.state_effecter.changes_of.Given as goal

abbrev pub invariant-loop-value : goal.invariant-loop-value
invariant-loop-value l = AllZip IsChangeIn (map view (take l.value-index l.values)) l.changes
