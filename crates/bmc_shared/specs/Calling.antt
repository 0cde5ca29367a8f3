-- What a call of a shared board makes of the seat that calls.
use Rattle.std.specs.Prelude.{◌≡◌, true}
use Rattle.record_base.specs.declared.message.Asked.{Asked}
use Rattle.record_base.specs.declared.message.Answered.{Answered}
use Rattle.bmc_shared.specs.declared.event.Call.TheVariants.{Exchanged}
use Rattle.bmc_shared.specs.Calls.{GainsCall}
use Rattle.bmc_shared.specs.declared.seat.Seat.{Seat}

-- its list gained the request with the answer, and its mark is as it was
pub record HasCalled {J : Type 0} {g h : _} (before : Seat J g) (asked : Asked) (answered : Answered) (after : Seat J h) : Type 0 where
  pub gained : GainsCall before.calls.items after.calls.items (Exchanged asked answered)
  pub mark : after.refused ≡ before.refused
  pub number : after.number ≡ before.number

-- its list is as it was, and it's marked
pub record HasFoundNoRoom {J : Type 0} {g h : _} (before : Seat J g) (after : Seat J h) : Type 0 where
  pub list : after.calls.items ≡ before.calls.items
  pub marked : after.refused ≡ true
  pub number : after.number ≡ before.number
