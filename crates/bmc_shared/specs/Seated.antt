-- What the seats of a board hold together.
use Rattle.std.specs.Prelude.{◌≡◌, ◌+◌, ℕ, List, [], true, false, length, drop, Result, IfOk, OnOk, OnErr}
use Rattle.bmc_board.specs.declared.asked_ref.AskedRef.{AskedRef}
use Rattle.bmc_board.specs.Carrying.{code_given}
use Rattle.bmc_shared.specs.Calls.{GainsCall}
use Rattle.bmc_shared.specs.Entries.{CallList, exchanged}
use Rattle.bmc_shared.specs.declared.event.Event.{Event}
use Rattle.bmc_shared.specs.declared.held.PeriodFull.{PeriodFull}
use Rattle.bmc_shared.specs.Matching.{MatchesHistory}
use Rattle.bmc_shared.specs.declared.seat.Seat.{Seat}
use Rattle.bmc_shared.specs.declared.seat.Seats.{Seats}

-- the seat called nothing yet, and was never refused
abbrev pub IsFreshSeat : {J : Type 0} {g : _} → Seat J g → Type 0
IsFreshSeat seat = (seat.calls.items ≡ []) × (seat.refused ≡ false)

-- What a call of a seat leaves of it, where it came to this. Without room in the history the seat is marked as refused, and its list stays; else its
-- mark stays. Its number always stays.
pub record LeavesSeat {J A : Type 0} {g h : _} (result : Result A PeriodFull) (before : Seat J g) (after : Seat J h) : Type 0 where
  pub mark : OnOk result (after.refused ≡ before.refused)
  pub same_list : OnErr result (after.calls.items ≡ before.calls.items)
  pub marked : OnErr result (after.refused ≡ true)
  pub number : after.number ≡ before.number

-- where an answer was given, the list gained the request with its code, and with the data that begin at this place of the reply
abbrev pub KeepsGiven : {E : Type 0} → Result (Result (Unit {0}) ℕ) E → (before after : CallList) → AskedRef → (start : ℕ) → (reply : List ℕ) → Type 0
KeepsGiven given before after asked start reply =
    IfOk given (λ done. GainsCall before.items after.items (exchanged asked (code_given done) (drop start reply)))

-- the seat's list is the history's of this number; where it was refused, the history is full
abbrev pub SeatMatches : {J : Type 0} {g : _} → ℕ → List Event → ℕ → Seat J g → Type 0
SeatMatches room history number seat = MatchesHistory room history number seat.calls.items seat.refused

-- each seat is as the history has it: the ports' are the seats 0 and 1, and the scanner's is 2
abbrev pub AllMatch : {J : Type 0} {g : _} → ℕ → List Event → Seats J g → Type 0
AllMatch room history seats =
    SeatMatches room history 0 seats.first
    × SeatMatches room history 1 seats.second
    × SeatMatches room history 2 seats.scanner

-- how many calls the three seats made
abbrev pub calls_made : {J : Type 0} {g : _} → Seats J g → ℕ
calls_made seats =
    length seats.first.calls.items + length seats.second.calls.items
    + length seats.scanner.calls.items
