-- Seats that come back from threads.
use Rattle.std.specs.Prelude.{◌≡◌, ◌++◌, List, [], ◌∷◌, true}
use Rattle.bmc_shared.specs.declared.event.Call.{Call}
use Rattle.bmc_shared.specs.declared.seat.Seat.{Seat}
use Rattle.bmc_shared.specs.declared.seat.Seats.{Seats}
use Rattle.bmc_shared.specs.declared.worker.End.{End}
use Rattle.bmc_shared.specs.declared.worker.End.TheVariants.{Turns, Full}

-- It's the seat of the same number, and its list begins with what it held. It's marked where its thread found no room, and else as it was marked before.
pub record ComesBack {J : Type 0} {g h : _} (before : Seat J g) (after : Seat J h) (end : End) : Type 0 where
  pub number : after.number ≡ before.number
  pub gained : List Call
  pub list : after.calls.items ≡ before.calls.items ++ gained
  pub marked : end ≡ Full → after.refused ≡ true
  pub mark : end ≡ Turns → after.refused ≡ before.refused

-- each seat does, with why its thread ended
abbrev pub AllComeBack : {J : Type 0} {g h : _} → (first second scanner : Seat J g) → Seats J h → List End → Type 0
AllComeBack first second scanner after (one ∷ two ∷ three ∷ []) =
    ComesBack first after.first one × ComesBack second after.second two × ComesBack scanner after.scanner three
AllComeBack first second scanner after _ = ⊥
