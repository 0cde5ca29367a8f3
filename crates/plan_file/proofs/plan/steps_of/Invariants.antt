use Rattle.std.proofs.Common.{◌≡◌, length, map, take, drop}
use Rattle.std.specs.List.{AllZip}
use Rattle.toml.specs.View.{view}
use Rattle.plan_file.specs.PlanFaults.{steps_faults}
use Rattle.plan_file.specs.PlanHolds.{IsStepIn}
use Rattle.plan_file.proofs.plan.steps_of.Given as goal

abbrev pub invariant-loop-place : goal.invariant-loop-place
invariant-loop-place l = record {
  zip : AllZip IsStepIn (map view (take l.place l.values)) l.steps;
  count : length l.steps ≡ l.place;
  left : steps_faults 0 (map view l.values) ≡ steps_faults l.place (map view (drop l.place l.values));
}
