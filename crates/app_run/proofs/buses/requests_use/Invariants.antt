use Rattle.std.proofs.Common.{◌≡◌, map, take}
use Rattle.bmc_core.specs.Wires.{bus_of}
use Rattle.app_run.specs.Buses.{is_used}
use Rattle.app_run.proofs.buses.requests_use.Given as goal

abbrev pub invariant-loop-place : goal.invariant-loop-place
invariant-loop-place l = record { seen : l.used ≡ is_used l.bus (map bus_of (take l.place l.requests.members)) }
