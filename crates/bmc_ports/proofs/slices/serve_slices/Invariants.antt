use Rattle.std.proofs.Common.{◌≡◌, List, length}
use Rattle.bmc_shared.specs.declared.worker.End.TheVariants.{Turns}
use Rattle.bmc_ports.specs.Since.{Hearing}
use Rattle.bmc_ports.specs.Slices.{TurnsMade}
use Rattle.bmc_ports.proofs.slices.serve_slices.Given as goal

-- it made as many turns as rounds
abbrev pub invariant-loop : goal.invariant-loop
invariant-loop g l =
    ((heard : List Hearing) × (length heard ≡ l.counter)
    × TurnsMade g.L.Link Turns heard l.initial.seat.calls.items l.seat.calls.items l.initial.lane l.lane)
    × (l.seat.refused ≡ l.initial.seat.refused) × (l.seat.number ≡ l.initial.seat.number)
