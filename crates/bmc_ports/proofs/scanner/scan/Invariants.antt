use Rattle.std.proofs.Common.{◌≡◌, ◌≤◌, ◌++◌, List, length, take}
use Rattle.std.specs.List.{AllZip}
use Rattle.bmc_shared.specs.declared.event.Call.{Call}
use Rattle.bmc_ports.specs.Scanning.{BenchCall}
use Rattle.bmc_ports.proofs.scanner.scan.Given as goal

-- so many events happened, each its own
abbrev pub invariant-loop-turn : goal.invariant-loop-turn
invariant-loop-turn g l =
    (gained : List Call) × (l.seat.calls.items ≡ l.initial.seat.calls.items ++ gained) × AllZip BenchCall (take l.turn l.bench) gained
    × (length gained ≡ l.turn) × (l.turn ≤ length l.bench)
    × (l.seat.refused ≡ l.initial.seat.refused) × (l.seat.number ≡ l.initial.seat.number)
