-- What each call makes of a greeting, and what it sends.
use Rattle.std.specs.Prelude.{◌≡◌, ℕ, ◌+◌, Bool, true, false, nat_lt, find, List, Option, Some, None, Result, Ok, Err, if◌then◌else◌}
use Rattle.two_wire.specs.declared.Bus.{Bus}
use Rattle.undo_plans.specs.GreetingPlaces.{greeting_places}
use Rattle.undo_plans.specs.declared.greeting.Greeting.{Greeting}
use Rattle.undo_plans.specs.declared.greeting.GreetingStage.{GreetingStage}
use Rattle.undo_plans.specs.declared.greeting.GreetingStage.TheVariants.{AtStart, Opened, Answered}
use Rattle.undo_plans.specs.declared.greeting.WrongStage.{WrongStage}
use Rattle.undo_plans.specs.GreetingRequests.{IsGreetingFrame, IsAnswer, SaysBusy}

-- the first place of the greeting's requests above this one
abbrev pub place_after : Bus → ℕ → Option ℕ
place_after bus place = find (nat_lt place) (greeting_places bus)

-- the count of the request of this place, counted from the manager's first
abbrev pub count_at : Greeting → ℕ → ℕ
count_at greeting place = greeting.next + place

-- the greeting after a call or a frame, and the place of the request whose frame it sends then
pub record StepResult : Type 0 where
  pub greeting : Greeting
  pub sends : Option ℕ

-- the request of this place is begun; where there is none, each was answered
abbrev pub begins : Greeting → Option ℕ → StepResult
begins greeting None = record { greeting = record greeting { stage = Answered; resent = 0 }; sends = None }
begins greeting (Some place) = record { greeting = record greeting { stage = Opened true place; resent = 0 }; sends = Some place }

-- no answer came: the request is sent again, or isn't heeded where that was done as often as it may be
abbrev pub sends_again : Greeting → ℕ → StepResult
sends_again greeting place =
    if nat_lt greeting.resent greeting.retries
    then record { greeting = record greeting { resent = greeting.resent + 1 }; sends = Some place }
    else record { greeting = record greeting { stage = Opened false place }; sends = None }

-- ---- calls: none where the stage isn't one for the call

abbrev pub start_at : Greeting → GreetingStage → Option StepResult
start_at greeting AtStart = Some (begins greeting (place_after greeting.bus 0))
start_at greeting _ = None

abbrev pub quiet_at : Greeting → GreetingStage → Option StepResult
quiet_at greeting (Opened true place) = Some (sends_again greeting place)
quiet_at greeting _ = None

-- the request that wasn't heeded is heeded again, and sent
abbrev pub again_at : Greeting → GreetingStage → Option StepResult
again_at greeting (Opened false place) = Some (begins greeting (Some place))
again_at greeting _ = None

-- ---- what a call does

-- the greeting sends the frame of the request of this place, or nothing
abbrev pub IsSent : Greeting → Option (List ℕ) → Option ℕ → Type 0
IsSent greeting (Some frame) (Some place) = IsGreetingFrame greeting.names greeting.bus (count_at greeting place) frame
IsSent greeting None None = Unit {0}
IsSent greeting _ _ = ⊥

-- the greeting is then the step's, and sends what the step sends
abbrev pub IsStepResult : Greeting → Option (List ℕ) → StepResult → Type 0
IsStepResult greeting frame step = (greeting ≡ step.greeting) × IsSent greeting frame step.sends

-- a call has the effect of the step; where there is no step, the call is refused and changes nothing
abbrev pub IsCalled : (old new : Greeting) → Result (Option (List ℕ)) WrongStage → Option StepResult → Type 0
IsCalled old new (Ok frame) (Some step) = IsStepResult new frame step
IsCalled old new (Err wrong) None = new ≡ old
IsCalled old new _ _ = ⊥

-- ---- what is heard

-- the bytes, which came on this bus, answer the open request of this place, and that is heeded
pub record IsHeard (greeting : Greeting) (bus : Bus) (bytes : List ℕ) (place : ℕ) : Type 0 where
  pub heeded : greeting.stage ≡ Opened true place
  pub same_bus : greeting.bus ≡ bus
  pub answers : IsAnswer greeting.names bus (count_at greeting place) bytes

-- the bytes, which came on this bus, say of the open request that the controller is busy, and that is heeded
pub record IsToldBusy (greeting : Greeting) (bus : Bus) (bytes : List ℕ) (place : ℕ) : Type 0 where
  pub heeded : greeting.stage ≡ Opened true place
  pub same_bus : greeting.bus ≡ bus
  pub says : SaysBusy greeting.names bus (count_at greeting place) bytes

-- the bytes answer none
abbrev pub IsIgnored : Greeting → Bus → List ℕ → Type 0
IsIgnored greeting bus bytes = (place : ℕ) → IsHeard greeting bus bytes place → ⊥

-- ---- what is asked of a greeting

abbrev pub is_open : GreetingStage → Bool
is_open (Opened heeded place) = true
is_open _ = false

-- a request is open, and heeded
abbrev pub is_heeded : GreetingStage → Bool
is_heeded (Opened true place) = true
is_heeded _ = false

abbrev pub is_over : GreetingStage → Bool
is_over Answered = true
is_over _ = false
