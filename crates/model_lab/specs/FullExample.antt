-- A run until there is no room.
use Rattle.std.specs.Prelude.{◌≡◌, ℕ, zero, suc, List, [], ◌∷◌, length, Some}
use Rattle.model_lab.specs.Lab.{Event, OtherIpmb}
use Rattle.model_lab.specs.declared.fault.Fault.TheVariants.{Room}
use Rattle.model_lab.specs.Faults.{most_frames, fault_of, AllTaken}
use Rattle.model_lab.specs.Example.{board_file, plans, one_step, start, after, other_request}

-- somebody reserves the log
abbrev pub reserves : Event
reserves = OtherIpmb (other_request 0x40 10 0x42 [])

-- an event, so many times
unfoldable pub times : ℕ → Event → List Event
times zero e = []
times (suc n) e = e ∷ times n e

-- as many of them as a lab sends frames at most are taken, each with a reply; the next is refused
pub record FillsUp : Type 0 where
  pub taken : AllTaken plans board_file (times most_frames reserves) (start one_step 3)
  pub frames : length (after one_step 3 (times most_frames reserves)).frames ≡ most_frames
  pub room : fault_of plans (after one_step 3 (times most_frames reserves)) reserves ≡ Some Room
