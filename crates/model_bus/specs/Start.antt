-- What is asked at a start, by name. Where a manager takes the place of another (`Resumes`), none of the three is asked again.
use Rattle.std.specs.Prelude.{◌≡◌, ◌≢◌, false, List, [], ◌∷◌}
use Rattle.model_bus.specs.Request.{Kept, Entry, carried_since}
use Rattle.model_bus.specs.Numbering.{Rules}
use Rattle.model_bus.specs.BusState.{BusState}
use Rattle.model_bus.specs.Assembly.{Name}
use Rattle.model_bus.specs.PacketBus.{PacketBus, BusEnds}

-- nothing is under way: the manager has begun nothing, and no frame of it, or to it, was sent
pub record NothingUnderWay (state : BusState) : Type 0 where
  pub begun : state.begun ≡ []
  pub carried : state.carried ≡ []
  pub taken : state.taken ≡ []
  pub frames : state.frames ≡ []

-- of what a port carried out for the manager since it last forgot its window, newest first: nothing, or the newest has a number that
-- is neither that of the manager's first request nor above it
abbrev pub IsFresh : Rules → List Kept → Type 0
IsFresh rules [] = Unit {0}
IsFresh rules (kept ∷ older) = (kept.request.number ≢ rules.number_of 0) × (rules.is_above (rules.number_of 0) kept.request.number ≡ false)

-- The manager's window is fresh: the port carried nothing out for it, or forgot its window since, or the manager greeted it since
-- (`Greeting.antt`). What the port did before may be anything, also for the manager.
abbrev pub FreshWindow : Rules → List Entry → Type 0
FreshWindow rules log = IsFresh rules (carried_since rules.manager log)

-- nothing waits: no packet of the manager at the port, and none of the controller at the manager
pub record NothingWaits (bus : PacketBus) (ends : BusEnds) : Type 0 where
  pub port : (name : Name) → name.source ≡ bus.manager → ends.port name ≡ []
  pub manager : (name : Name) → name.source ≡ bus.controller → ends.manager name ≡ []
