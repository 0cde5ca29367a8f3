-- What seats hold, beside a history.
use Rattle.std.specs.Prelude.{◌≡◌, ℕ, List, Bool, true, length}
use Rattle.bmc_shared.specs.declared.event.Call.{Call}
use Rattle.bmc_shared.specs.declared.event.Event.{Event}
use Rattle.bmc_shared.specs.Replay.{calls_of}

-- a seat's list is the history's list of that seat, and where the seat was refused the history is full
pub record MatchesHistory (room : ℕ) (history : List Event) (seat : ℕ) (calls : List Call) (refused : Bool) : Type 0 where
  pub calls_are : calls_of seat history ≡ calls
  pub is_full : refused ≡ true → length history ≡ room
