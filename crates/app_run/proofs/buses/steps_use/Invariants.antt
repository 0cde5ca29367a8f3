use Rattle.std.proofs.Common.{◌≡◌, map, take}
use Rattle.app_run.specs.Buses.{bus_of_step, is_used}
use Rattle.app_run.proofs.buses.steps_use.Given as goal

abbrev pub invariant-loop-place : goal.invariant-loop-place
invariant-loop-place l = record { seen : l.used ≡ is_used l.bus (map bus_of_step (take l.place l.steps)) }
