use Rattle.std.proofs.Common.{◌≡◌}
use Rattle.bmc_ports.specs.Timing.{GainsCalls}
use Rattle.bmc_ports.proofs.happening.happen_by_agenda.Given as goal

-- all before the place happened
abbrev pub invariant-loop-place : goal.invariant-loop-place
invariant-loop-place g l =
    GainsCalls l.initial.agenda.repeats l.initial.agenda.table.list.now l.initial.agenda.table.next l.agenda.table.next l.initial.seat.calls.items l.seat.calls.items
    × (l.agenda.table.next ≡ l.place) × (l.agenda.table.list ≡ l.initial.agenda.table.list) × (l.agenda.table.start ≡ l.initial.agenda.table.start)
    × (l.agenda.repeats ≡ l.initial.agenda.repeats)
    × (l.seat.refused ≡ l.initial.seat.refused) × (l.seat.number ≡ l.initial.seat.number)
