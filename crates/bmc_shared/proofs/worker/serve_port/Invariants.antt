use Rattle.std.proofs.Common.{◌≡◌}
use Rattle.bmc_core.specs.Port.{bus_of}
use Rattle.bmc_shared.specs.Serving.{TurnsOver, WorkerRun}
use Rattle.bmc_shared.specs.declared.worker.End.TheVariants.{Turns}
use Rattle.bmc_shared.proofs.worker.serve_port.Given as goal

abbrev pub invariant-loop : goal.invariant-loop
invariant-loop g l =
    WorkerRun Turns l.counter l.initial.port l.port l.initial.seat.calls.items l.seat.calls.items (g.L.Link.counts_of l.initial.link) (g.L.Link.counts_of l.link)
    × TurnsOver g.L.Link l.counter l.initial.port l.port l.initial.seat.calls.items l.seat.calls.items l.initial.link l.link
    × (l.seat.refused ≡ l.initial.seat.refused) × (l.seat.number ≡ l.initial.seat.number) × (bus_of l.port ≡ bus_of l.initial.port)
