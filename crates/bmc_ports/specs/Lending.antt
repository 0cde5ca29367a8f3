-- What two workers and a scanner give back of what they were lent.
use Rattle.std.specs.Prelude.{◌≤◌, ℕ, Option, None, Some, false}
use Rattle.wire_links.specs.declared.link.Link.{Ghosts}
use Rattle.bmc_shared.specs.declared.seat.Seats.{Seats}
use Rattle.bmc_shared.specs.Seated.{calls_made}
use Rattle.bmc_ports.specs.declared.agenda.Agenda.{Agenda}
use Rattle.bmc_ports.specs.declared.lane.Lanes.{Lanes}
use Rattle.bmc_ports.specs.declared.runner.RunResult.{RunResult}
use Rattle.bmc_ports.specs.declared.timetable.Timetable.{Timetable}
use Rattle.bmc_ports.specs.Slices.{IsBack}
use Rattle.bmc_ports.specs.Timing.{IsPlayed}

-- a timetable that is gone through once
abbrev pub once_through : Timetable → Agenda
once_through table = record { table = table; repeats = false }

-- All three are back: each worker with its seat, port and link, and the scanner with its seat and the place to which the agenda came.
pub record AreBack {J A B : Type 0} {g h : _} (one : Ghosts A) (two : Ghosts B) (seats : Seats J g) (lanes : Lanes A B)
    (agenda : Agenda) (after : RunResult J A B h) : Type 0 where
  pub first : IsBack one seats.first lanes.first after.seats.first after.lanes.first after.first_end
  pub second : IsBack two seats.second lanes.second after.seats.second after.lanes.second after.second_end
  pub scanner : IsPlayed agenda.repeats agenda.table.list.now agenda.table.next after.next seats.scanner after.seats.scanner after.scanner_end

-- the seats made as many calls together as end it, where some number does
abbrev pub HaveCalledEnough : {J : Type 0} {g : _} → (most : Option ℕ) → Seats J g → Type 0
HaveCalledEnough None seats = ⊥
HaveCalledEnough (Some most) seats = most ≤ calls_made seats
