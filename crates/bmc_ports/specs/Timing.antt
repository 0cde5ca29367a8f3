-- What the scanner has happen on a board at times.
use Rattle.std.specs.Prelude.{◌≡◌, ◌≢◌, ◌↔◌, ◌+◌, ◌++◌, ◌%◌, ℕ, List, [], ◌∷◌, length, Bool, true, false, Option, None, Some, option_map, slice_get}
use Rattle.bmc_board.specs.declared.bench.Bench.{Bench}
use Rattle.bmc_shared.specs.declared.event.Call.{Call}
use Rattle.bmc_shared.specs.declared.seat.Seat.{Seat}
use Rattle.bmc_ports.specs.Scanning.{BenchCall}
use Rattle.bmc_ports.specs.declared.scanner_play.ScannerLoan.{ScannerLoan}
use Rattle.bmc_ports.specs.declared.scanner_play.ScannerReturn.{ScannerReturn}
use Rattle.bmc_ports.specs.declared.timetable.Timed.{Timed}
use Rattle.bmc_ports.specs.declared.timetable.TimedEnd.{TimedEnd}
use Rattle.bmc_ports.specs.declared.timetable.TimedEnd.TheVariants.{Over, Full}

-- The event at a place of a list that is gone through once, or again and again: then the places behind its end are those of its later rounds. Where
-- nothing is left there is none.
abbrev pub event_at : (repeats : Bool) → List Timed → (place : ℕ) → Option Bench
event_at false list place = option_map (λ timed. timed.event) (slice_get list place)
event_at true list place = option_map (λ timed. timed.event) (slice_get list (place % length list))

-- there is an event, and the call has it happen
abbrev pub CallsEvent : Option Bench → Call → Type 0
CallsEvent None call = ⊥
CallsEvent (Some event) call = BenchCall event call

-- the calls have the events happen that stand from a place on, one each, in their order
abbrev pub HappenFrom : (repeats : Bool) → List Timed → (place : ℕ) → List Call → Type 0
HappenFrom repeats list place [] = Unit {0}
HappenFrom repeats list place (call ∷ later) =
    CallsEvent (event_at repeats list place) call × HappenFrom repeats list (place + 1) later

-- The scanner came so far in the list, from one place to another. Its seat's list gained what stands between them, in its order.
pub record GainsCalls (repeats : Bool) (list : List Timed) (from to : ℕ) (held kept : List Call) : Type 0 where
  pub gained : List Call
  pub calls : kept ≡ held ++ gained
  pub far : to ≡ from + length gained
  pub happened : HappenFrom repeats list from gained

-- The scanner's seat comes back, marked where it found no room and else as it was. The scanner came so far in the list, and ended so: to where
-- nothing is left, or not.
pub record IsPlayed {J : Type 0} {g h : _} (repeats : Bool) (list : List Timed) (from to : ℕ) (seat : Seat J g) (after : Seat J h) (end : TimedEnd) : Type 0 where
  pub number : after.number ≡ seat.number
  pub marked : end ≡ Full → after.refused ≡ true
  pub mark : end ≢ Full → after.refused ≡ seat.refused
  pub over : (end ≡ Over) ↔ (event_at repeats list to ≡ None)
  pub gains : GainsCalls repeats list from to seat.calls.items after.calls.items

-- so it is of a scanner that was lent this, and gave that back
abbrev pub ScannerRun : {J : Type 0} {g h : _} → (script : ScannerLoan J g) → (played : ScannerReturn J h) → Type 0
ScannerRun script played =
    IsPlayed script.agenda.repeats script.agenda.table.list.now script.agenda.table.next played.next script.seat played.seat played.end
