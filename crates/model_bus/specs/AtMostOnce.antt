-- What holds of a bus: every request of the manager is carried out at most once, in the order begun.
use Rattle.std.specs.Prelude.{◌≡◌, ℕ, ◌+◌, ◌≤◌, List, ◌++◌, length, Some, slice_get}
use Rattle.model_bus.specs.Request.{Kept, Entry, carried_by}
use Rattle.model_bus.specs.Numbering.{Rules}
use Rattle.model_bus.specs.BusState.{BusState, Event, request_of, run}
use Rattle.model_bus.specs.Schedule.{AllHonest}
use Rattle.model_bus.specs.Start.{NothingUnderWay, FreshWindow}

-- what holds of the bus in this state, over a port that did this before
pub record AtMostOnce (rules : Rules) (before : List Entry) (state : BusState) : Type 0 where
  -- the n-th request that was carried out is the n-th that was begun
  pub in_order : (number : ℕ) (entry : Kept) → slice_get state.carried number ≡ Some entry → (slice_get state.begun number ≡ Some entry.request.bytes) × (entry.request ≡ request_of rules number entry.request.bytes)
  -- the n-th reply that the manager took is the reply that the port keeps for the n-th request
  pub replied : (number : ℕ) (reply : List ℕ) → slice_get state.taken number ≡ Some reply → (entry : Kept) × (slice_get state.carried number ≡ Some entry) × (entry.reply ≡ reply)
  -- a request whose reply was taken was carried out
  pub answered : length state.taken ≤ length state.carried
  -- nothing was carried out that was not begun
  pub carried : length state.carried ≤ length state.begun
  -- at most one request is open
  pub one_open : length state.begun ≤ length state.taken + 1
  -- and the port carried nothing else out in the manager's name
  pub nothing_else : carried_by rules.manager state.log ≡ carried_by rules.manager before ++ state.carried

-- at every event of every honest schedule from a start, whoever takes the manager's place on the way
abbrev pub AlwaysAtMostOnce : Rules → Type 0
AlwaysAtMostOnce rules = (start : BusState) (events later : List Event) → NothingUnderWay start → FreshWindow rules start.log
    → AllHonest rules (events ++ later) start → AtMostOnce rules start.log (run rules events start)
