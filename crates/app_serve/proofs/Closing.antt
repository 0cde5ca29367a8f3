-- What a closed history makes a period.
use Rattle.std.proofs.Common.{◌≡◌, ◌≤◌, ◌⊎◌, ◌∙◌, inl, inr, sym, subst, ℕ, Bool, List, [], Option, None, Some, length}
use Rattle.cfg_records.specs.declared.board_file.BoardFile.{BoardFile}
use Rattle.bmc_board.specs.State.{State, state_of}
use Rattle.app_serve.specs.declared.periods.Period.{Period}
use Rattle.app_serve.specs.declared.periods.PeriodState.{PeriodState}
use Rattle.wire_links.specs.declared.link.Link.{Ghosts}
use Rattle.bmc_shared.specs.declared.event.Call.{Call}
use Rattle.bmc_shared.specs.declared.event.Event.{Event}
use Rattle.bmc_shared.specs.Replay.{calls_of}
use Rattle.bmc_shared.specs.declared.seat.Seats.{Seats}
use Rattle.bmc_shared.specs.Seated.{IsFreshSeat, calls_made}
use Rattle.bmc_shared.specs.declared.worker.End.{End}
use Rattle.bmc_shared.specs.declared.worker.End.TheVariants.{Full}
use Rattle.bmc_ports.specs.declared.agenda.Agenda.{Agenda}
use Rattle.bmc_ports.specs.declared.lane.Lane.{Lane}
use Rattle.bmc_ports.specs.declared.lane.Lanes.{Lanes}
use Rattle.bmc_ports.specs.declared.timetable.Timed.{Timed}
use Rattle.bmc_ports.specs.declared.timetable.TimedEnd.{TimedEnd}
use Rattle.bmc_ports.specs.declared.timetable.TimedEnd.TheVariants as timed
use Rattle.bmc_ports.specs.Lending.{HaveCalledEnough}
use Rattle.bmc_ports.specs.Slices.{WorkerEnd, IsBack, IsDone, NoRoom}
use Rattle.bmc_ports.specs.Timing.{GainsCalls, IsPlayed}
use Rattle.app_serve.specs.Served.{most_events}
use Rattle.app_serve.specs.Periods.{HasEnoughEvents, IsClosed, IsPeriod, events_of_period}

-- a worker whose seat was fresh has called what the history has of it
called : {L : Type 0} (of : Ghosts L) (end : End) (held kept calls : List Call) (before after : Lane L) → held ≡ [] → kept ≡ calls
    → WorkerEnd of end held kept before after → WorkerEnd of end [] calls before after
called of end held kept calls before after none are goes =
    subst (λ (xs : List Call). WorkerEnd of end xs calls before after) none (subst (λ (xs : List Call). WorkerEnd of end held xs before after) are goes)

-- and so has a scanner
happened : (repeats : Bool) (list : List Timed) (from to : ℕ) (held kept calls : List Call) → held ≡ [] → kept ≡ calls
    → GainsCalls repeats list from to held kept → GainsCalls repeats list from to [] calls
happened repeats list from to held kept calls none are gains =
    subst (λ (xs : List Call). GainsCalls repeats list from to xs calls) none (subst (λ (xs : List Call). GainsCalls repeats list from to held xs) are gains)

-- where one of two workers or the scanner found no room, the history is full
is_full : (one two : End) (scanner : TimedEnd) (count room : ℕ) → (one ≡ Full → count ≡ room) → (two ≡ Full → count ≡ room) → (scanner ≡ timed.Full → count ≡ room)
    → room ≡ most_events → NoRoom one two scanner → count ≡ most_events
is_full one two scanner count room first second third most (inl (inl full)) = first full ∙ most
is_full one two scanner count room first second third most (inl (inr full)) = second full ∙ most
is_full one two scanner count room first second third most (inr full) = third full ∙ most

-- seats that made as many calls as end it leave a history with as many events
has_enough : {J : Type 0} {g : _} (most : Option ℕ) (seats : Seats J g) (history : List Event) → length history ≡ calls_made seats
    → HaveCalledEnough most seats → HasEnoughEvents most history
has_enough None seats history counted enough = absurd enough
has_enough (Some most) seats history counted enough = subst (λ (n : ℕ). most ≤ n) (sym counted) enough

-- so the serving of a history ends
is_done : {J : Type 0} {g : _} {A B : Type 0} (quiet most : Option ℕ) (one two : End) (scanner : TimedEnd) (lanes : Lanes A B) (seats : Seats J g) (history : List Event)
    → length history ≡ calls_made seats → IsDone quiet one two scanner lanes ⊎ HaveCalledEnough most seats
    → IsDone quiet one two scanner lanes ⊎ HasEnoughEvents most history
is_done quiet most one two scanner lanes seats history counted (inl done) = inl done
is_done quiet most one two scanner lanes seats history counted (inr enough) = inr (has_enough most seats history counted enough)

-- a history that is closed once its workers and its scanner are back is a period
is_period : {J : Type 0} {g h : _} {A B : Type 0} (one : Ghosts A) (two : Ghosts B) (periods : Bool) (quiet : Option ℕ) (setup : BoardFile) (opening ending : State) (room : ℕ)
    (fresh : Seats J g) (before : Lanes A B) (repeats : Bool) (list : List Timed) (from to : ℕ) (seats : Seats J h) (after : Lanes A B) (first_end second_end : End) (scanner_end : TimedEnd) (history : List Event)
    → room ≡ most_events → IsFreshSeat fresh.first → IsFreshSeat fresh.second → IsFreshSeat fresh.scanner
    → IsBack one fresh.first before.first seats.first after.first first_end
    → IsBack two fresh.second before.second seats.second after.second second_end
    → IsPlayed repeats list from to fresh.scanner seats.scanner scanner_end
    → IsDone quiet first_end second_end scanner_end after ⊎ HaveCalledEnough (events_of_period periods) seats
    → IsClosed setup opening ending room seats history → IsPeriod one two periods quiet setup opening ending before after repeats list from to history
is_period one two periods quiet setup opening ending room fresh before repeats list from to seats after first_end second_end scanner_end history most none_first none_second none_third
    first second third done closed =
    record {
      few = subst (λ (n : ℕ). length history ≤ n) most closed.few;
      replays = closed.replays;
      first_end = first_end;
      second_end = second_end;
      scanner_end = scanner_end;
      first = called one first_end fresh.first.calls.items seats.first.calls.items (calls_of 0 history) before.first after.first
          none_first.0 (sym closed.first.calls_are) first.goes;
      second = called two second_end fresh.second.calls.items seats.second.calls.items (calls_of 1 history) before.second after.second
          none_second.0 (sym closed.second.calls_are) second.goes;
      third = happened repeats list from to fresh.scanner.calls.items seats.scanner.calls.items (calls_of 2 history) none_third.0 (sym closed.third.calls_are) third.gains;
      over = third.over;
      full = is_full first_end second_end scanner_end (length history) room
          (λ full. closed.first.is_full (first.marked full)) (λ full. closed.second.is_full (second.marked full))
          (λ full. closed.third.is_full (third.marked full)) most;
      done = is_done quiet (events_of_period periods) first_end second_end scanner_end after seats history closed.counted done;
    }

-- the same of the board that was served so far, by what it was lent for and what closing gave
pub closes_period : {J : Type 0} {g h : _} {A B : Type 0} (one : Ghosts A) (two : Ghosts B) (periods : Bool) (quiet silence events : Option ℕ) (course : PeriodState A B) (setup : BoardFile)
    (opening : State) (room : ℕ) (fresh : Seats J g) (left : Agenda) (to : ℕ) (seats : Seats J h) (after : Lanes A B) (first_end second_end : End) (scanner_end : TimedEnd) (period : Period A B) (place : ℕ)
    → course.board.setup ≡ setup → state_of course.board ≡ opening → room ≡ most_events
    → left.repeats ≡ course.agenda.repeats → left.table.list.now ≡ course.agenda.table.list.now → left.table.next ≡ course.agenda.table.next
    → silence ≡ quiet → events ≡ events_of_period periods
    → IsFreshSeat fresh.first → IsFreshSeat fresh.second → IsFreshSeat fresh.scanner
    → IsBack one fresh.first course.lanes.first seats.first after.first first_end
    → IsBack two fresh.second course.lanes.second seats.second after.second second_end
    → IsPlayed left.repeats left.table.list.now left.table.next to fresh.scanner seats.scanner scanner_end
    → IsDone silence first_end second_end scanner_end after ⊎ HaveCalledEnough events seats
    → IsClosed setup opening (state_of period.board) room seats period.history → period.lanes ≡ after → period.next ≡ to → place ≡ period.next
    → IsPeriod one two periods quiet course.board.setup (state_of course.board) (state_of period.board) course.lanes period.lanes
    course.agenda.repeats course.agenda.table.list.now course.agenda.table.next place period.history
closes_period one two periods quiet silence events course setup opening room fresh left to seats after first_end second_end scanner_end period place is opens most same_rule same_list same_place
    same_silence same_events none_first none_second none_third first second third done closed lanes next same_end =
    let first_state : State = state_of course.board in
    let ending : State = state_of period.board in
    let history : List Event = period.history in
    let repeats : Bool = course.agenda.repeats in
    let list : List Timed = course.agenda.table.list.now in
    let from : ℕ = course.agenda.table.next in
    let played : IsPlayed repeats list from to fresh.scanner seats.scanner scanner_end =
    subst (λ (n : ℕ). IsPlayed repeats list n to fresh.scanner seats.scanner scanner_end) same_place
    (subst (λ (l : List Timed). IsPlayed repeats l left.table.next to fresh.scanner seats.scanner scanner_end) same_list
    (subst (λ (r : Bool). IsPlayed r left.table.list.now left.table.next to fresh.scanner seats.scanner scanner_end) same_rule third)) in
    let ends : IsDone quiet first_end second_end scanner_end after ⊎ HaveCalledEnough (events_of_period periods) seats =
    subst (λ (q : Option ℕ). IsDone q first_end second_end scanner_end after ⊎ HaveCalledEnough (events_of_period periods) seats) same_silence
    (subst (λ (m : Option ℕ). IsDone silence first_end second_end scanner_end after ⊎ HaveCalledEnough m seats) same_events done) in
    let is_closed : IsClosed course.board.setup first_state ending room seats history =
    subst (λ (s : BoardFile). IsClosed s first_state ending room seats history) (sym is)
    (subst (λ (o : State). IsClosed setup o ending room seats history) (sym opens) closed) in
    subst (λ (n : ℕ). IsPeriod one two periods quiet course.board.setup first_state ending course.lanes period.lanes repeats list from n history) (sym (same_end ∙ next))
    (subst (λ (l : Lanes _ _). IsPeriod one two periods quiet course.board.setup first_state ending course.lanes l repeats list from to history) (sym lanes)
    (is_period one two periods quiet course.board.setup first_state ending room fresh course.lanes repeats list from to seats after first_end second_end scanner_end history most none_first
    none_second none_third first second played ends is_closed))
