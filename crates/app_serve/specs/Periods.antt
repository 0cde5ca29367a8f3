-- A board that is served period by period.
use Rattle.std.specs.Prelude.{◌≡◌, ◌⊎◌, ◌≤◌, ◌+◌, ◌-◌, ◌↔◌, ℕ, Bool, true, false, List, [], ◌∷◌, Option, None, Some, length}
use Rattle.std.specs.List.{flat_map, sum_by}
use Rattle.cfg_records.specs.declared.board_file.BoardFile.{BoardFile}
use Rattle.bmc_board.specs.State.{State, state_of}
use Rattle.wire_links.specs.declared.link.Link.{Ghosts}
use Rattle.bmc_shared.specs.declared.event.Event.{Event}
use Rattle.bmc_shared.specs.Replay.{IsReplay, calls_of}
use Rattle.bmc_shared.specs.declared.seat.Seats.{Seats}
use Rattle.bmc_shared.specs.Seated.{SeatMatches, calls_made}
use Rattle.bmc_shared.specs.declared.worker.End.{End}
use Rattle.bmc_ports.specs.declared.agenda.Agenda.{Agenda}
use Rattle.bmc_ports.specs.declared.lane.Lanes.{Lanes}
use Rattle.bmc_ports.specs.declared.timetable.Timed.{Timed}
use Rattle.bmc_ports.specs.declared.timetable.TimedEnd.{TimedEnd}
use Rattle.bmc_ports.specs.declared.timetable.TimedEnd.TheVariants.{Over}
use Rattle.bmc_ports.specs.Slices.{WorkerEnd, NoRoom, IsDone, EndsAt}
use Rattle.bmc_ports.specs.Timing.{GainsCalls, event_at}
use Rattle.app_serve.specs.declared.periods.PeriodState.{PeriodState}
use Rattle.app_serve.specs.Served.{IsCount, most_events}

-- the room that is left where a period ends and another one follows: an event for each of the two others that may be about to bring one
abbrev pub room_left : ℕ
room_left = 2

-- how many events end a period, where another one follows
abbrev pub events_of_period : (periods : Bool) → Option ℕ
events_of_period true = Some (most_events - room_left)
events_of_period false = None

-- a history has as many events as end a period, where some number does
abbrev pub HasEnoughEvents : (most : Option ℕ) → List Event → Type 0
HasEnoughEvents None history = ⊥
HasEnoughEvents (Some most) history = most ≤ length history

-- A period has a history, which leads from the one state to the other. What the history has of each port's seat is what that port got, what
-- it has of the scanner's seat is the list from the one place to the other, gone through once or again and again, and where one of them found no
-- room the history is full. It ends where there was no room, where the serving is over, or where it has the events that end a period.
pub record IsPeriod {A B : Type 0} (one : Ghosts A) (two : Ghosts B) (periods : Bool) (quiet : Option ℕ) (setup : BoardFile) (opening ending : State)
    (before after : Lanes A B) (repeats : Bool) (list : List Timed) (from to : ℕ) (history : List Event) : Type 0 where
  pub few : length history ≤ most_events
  pub replays : IsReplay setup opening history ending
  pub first_end : End
  pub second_end : End
  pub scanner_end : TimedEnd
  pub first : WorkerEnd one first_end [] (calls_of 0 history) before.first after.first
  pub second : WorkerEnd two second_end [] (calls_of 1 history) before.second after.second
  pub third : GainsCalls repeats list from to [] (calls_of 2 history)
  pub over : (scanner_end ≡ Over) ↔ (event_at repeats list to ≡ None)
  pub full : NoRoom first_end second_end scanner_end → length history ≡ most_events
  pub done : IsDone quiet first_end second_end scanner_end after ⊎ HasEnoughEvents (events_of_period periods) history

-- A board is closed with its history: that leads to it, has no more events than there was room for, and has the calls of the seats.
pub record IsClosed {J : Type 0} {g : _} (setup : BoardFile) (opening ending : State) (room : ℕ) (seats : Seats J g) (history : List Event) : Type 0 where
  pub few : length history ≤ room
  pub replays : IsReplay setup opening history ending
  pub first : SeatMatches room history 0 seats.first
  pub second : SeatMatches room history 1 seats.second
  pub third : SeatMatches room history 2 seats.scanner
  pub counted : length history ≡ calls_made seats

-- Periods with these histories follow one another: each begins with the state, the ports, the links, the turns and the list's place with which
-- the last ended.
abbrev pub PeriodsFollow : {A B : Type 0} → (one : Ghosts A) → (two : Ghosts B) → (periods : Bool) → (quiet : Option ℕ) → BoardFile → (repeats : Bool) → (list : List Timed)
    → (opening : State) → (before : Lanes A B) → (from : ℕ) → List (List Event) → (ending : State) → (after : Lanes A B) → (to : ℕ) → Type 0
PeriodsFollow {A} {B} one two periods quiet setup repeats list opening before from [] ending after to = (opening ≡ ending) × (before ≡ after) × (from ≡ to)
PeriodsFollow {A} {B} one two periods quiet setup repeats list opening before from (history ∷ later) ending after to =
    (mid : State) × (lanes : Lanes A B) × (place : ℕ) × IsPeriod one two periods quiet setup opening mid before lanes repeats list from place history
    × PeriodsFollow one two periods quiet setup repeats list mid lanes place later ending after to

-- A board was served for such periods, with so many events in all: for one, unless there may be several. What their histories have of the scanner's
-- seat is the list from its first place on, in its order, once or again and again.
pub record RunsTo {A B : Type 0} (one : Ghosts A) (two : Ghosts B) (periods : Bool) (quiet : Option ℕ) (setup : BoardFile) (opening : State) (before : Lanes A B)
    (agenda : Agenda) (course : PeriodState A B) : Type 0 where
  pub histories : List (List Event)
  pub count : IsCount periods (length histories)
  pub follow : PeriodsFollow one two periods quiet setup agenda.repeats agenda.table.list.now opening before agenda.table.next histories
      (state_of course.board) course.lanes course.agenda.table.next
  pub plays : GainsCalls agenda.repeats agenda.table.list.now agenda.table.next course.agenda.table.next [] (flat_map (calls_of 2) histories)
  pub events : course.events ≡ sum_by length histories
  pub setup_is : course.board.setup ≡ setup
  pub list_is : course.agenda.table.list.now ≡ agenda.table.list.now
  pub repeats_is : course.agenda.repeats ≡ agenda.repeats

-- The serving is over: both workers made all their turns, or both links were quiet for so many turns in a row, where a number is given; or there
-- was to be one history, and it is full.
abbrev pub EndsServing : {A B : Type 0} → (periods : Bool) → (quiet : Option ℕ) → PeriodState A B → Type 0
EndsServing periods quiet course = EndsAt quiet course.lanes ⊎ ((periods ≡ false) × (course.events ≡ most_events))

-- the board was served for one period more
pub record GoesToNext {A B : Type 0} (one : Ghosts A) (two : Ghosts B) (periods : Bool) (quiet : Option ℕ) (before next : PeriodState A B) : Type 0 where
  pub history : List Event
  pub period : IsPeriod one two periods quiet before.board.setup (state_of before.board) (state_of next.board)
      before.lanes next.lanes before.agenda.repeats before.agenda.table.list.now before.agenda.table.next next.agenda.table.next history
  pub events : next.events ≡ before.events + length history
  pub setup_is : next.board.setup ≡ before.board.setup
  pub list_is : next.agenda.table.list.now ≡ before.agenda.table.list.now
  pub repeats_is : next.agenda.repeats ≡ before.agenda.repeats
