-- A greeting that is driven over the link of its bus: what it hears, what it sends, and how that ends.
use Rattle.std.specs.Prelude.{◌≡◌, ◌≤◌, ◌⊎◌, ◌↔◌, ℕ, suc, Bool, true, false, ◌&&◌, ◌||◌, List, [], ◌∷◌, Option, Some, None, is_none, Result, Ok, Err, IsTrue}
use Rattle.two_wire.specs.declared.Bus.{Bus}
use Rattle.wire_links.specs.declared.link.Heard.{Heard}
use Rattle.wire_links.specs.declared.link.Heard.TheVariants.{Frame, Quiet}
use Rattle.wire_links.specs.declared.link.LinkFault.{LinkFault}
use Rattle.wire_links.specs.declared.link.Link.{Ghosts}
use Rattle.wire_links.specs.Trace.{Sending, Gives, Takes}
use Rattle.undo_plans.specs.declared.greeting.Greeting.{Greeting}
use Rattle.undo_plans.specs.declared.greeting.GreetingStage.{GreetingStage}
use Rattle.undo_plans.specs.declared.greeting.GreetingStage.TheVariants.{AtStart, Opened}
use Rattle.undo_plans.specs.Greeter.{StepResult, IsStepResult, IsHeard, IsIgnored, IsToldBusy, begins, is_heeded, is_over, place_after, quiet_at}
use Rattle.bmc_ports.specs.declared.greeter.GreetEnd.{GreetEnd}
use Rattle.bmc_ports.specs.declared.greeter.GreetEnd.TheVariants as ends

-- ---- the greeting

-- a greeting, the frame that it gave and that isn't sent yet, and whether the newest reply to its open request says that the controller is busy
pub record GreetState : Type 0 where
  pub greeting : Greeting
  pub unsent : Option (List ℕ)
  pub busy : Bool

abbrev pub state : Greeting → Option (List ℕ) → Bool → GreetState
state greeting unsent busy = record { greeting = greeting; unsent = unsent; busy = busy }

-- nothing comes of it
abbrev pub rests : Greeting → StepResult
rests greeting = record { greeting = greeting; sends = None }

-- It is begun, or its open request that isn't heeded is sent again. Else it goes on as it is.
abbrev pub begun_at : Greeting → GreetingStage → StepResult
begun_at greeting AtStart = begins greeting (place_after greeting.bus 0)
begun_at greeting (Opened false place) = begins greeting (Some place)
begun_at greeting _ = rests greeting

abbrev pub or_rests : Greeting → Option StepResult → StepResult
or_rests greeting (Some step) = step
or_rests greeting None = rests greeting

-- it is told that no answer came; where it awaits none, nothing comes of that
abbrev pub quieted_at : Greeting → StepResult
quieted_at greeting = or_rests greeting (quiet_at greeting greeting.stage)

abbrev pub IsToldQuiet : (before after : GreetState) → Type 0
IsToldQuiet before after = IsStepResult after.greeting after.unsent (quieted_at before.greeting) × (after.busy ≡ before.busy)

-- It hears these bytes. Where they answer its open request, the next one is begun, and no reply to that came; nothing else changes it. They may
-- say of the open request that the controller is busy.
pub record HearsFrame (on : Bus) (bytes : List ℕ) (before after : GreetState) : Type 0 where
  pub answered : (place : ℕ) → IsHeard before.greeting on bytes place → IsStepResult after.greeting after.unsent (begins before.greeting (place_after before.greeting.bus place))
  pub ignored : IsIgnored before.greeting on bytes → (after.greeting ≡ before.greeting) × (after.unsent ≡ None)
  pub says_busy : Bool
  pub says : IsTrue says_busy ↔ ((place : ℕ) × IsToldBusy before.greeting on bytes place)
  pub newest : after.busy ≡ (says_busy || (before.busy && is_none after.unsent))

-- it hears the frame that the link gave; of all else it is told that no answer came
abbrev pub Hears : (on : Bus) → Result Heard LinkFault → (before after : GreetState) → Type 0
Hears on (Ok (Frame bytes)) = HearsFrame on bytes
Hears on (Ok Quiet) = IsToldQuiet
Hears on (Err fault) = IsToldQuiet

-- ---- its link

-- where a greeting and its link are
pub record GreetMoment (L : Type 0) : Type 0 where
  pub state : GreetState
  pub link : L

abbrev pub moment : {L : Type 0} → GreetState → L → GreetMoment L
moment state link = record { state = state; link = link }

-- `next` of the link was called and answered so, or a frame was sent over it, which came to this
pub data GreetCall : Type 0 where
  Next : (answer : Result Heard LinkFault) → GreetCall
  Send : (frame : List ℕ) (answer : Sending) → GreetCall

-- what the greeting gave was sent; after a fault it's told that no answer came
abbrev pub IsSentBy : Sending → (before after : GreetState) → Type 0
IsSentBy (Ok done) before after = after ≡ state before.greeting None before.busy
IsSentBy (Err fault) before after = IsToldQuiet before after

-- the turns among these calls: those of `next`
abbrev pub turns_in : List GreetCall → ℕ
turns_in [] = 0
turns_in (Next answer ∷ later) = suc (turns_in later)
turns_in (Send frame answer ∷ later) = turns_in later

module _ {L : Type 0} (of : Ghosts L) where
  -- A call of the link led from one moment to the next. All that the greeting gave is sent before `next` is called, and that only while the greeting
  -- awaits an answer. The greeting hears the very frame that the link gave.
  abbrev pub LeadsBy : GreetCall → (before after : GreetMoment L) → Type 0
  LeadsBy (Next answer) before after =
      (before.state.unsent ≡ None) × (is_heeded before.state.greeting.stage ≡ true) × Gives of before.link answer after.link
      × Hears before.state.greeting.bus answer before.state after.state
  LeadsBy (Send frame answer) before after =
      (before.state.unsent ≡ Some frame) × Takes of before.link frame answer after.link × IsSentBy answer before.state after.state

  -- the calls did, one after another
  abbrev pub LeadsByAll : List GreetCall → (before after : GreetMoment L) → Type 0
  LeadsByAll [] before after = before ≡ after
  LeadsByAll (made ∷ later) before after = (mid : GreetMoment L) × LeadsBy made before mid × LeadsByAll later mid after

  -- calls did, with so many turns among them
  pub record Drives (turns : ℕ) (before after : GreetMoment L) : Type 0 where
    pub calls : List GreetCall
    pub turns_made : turns_in calls ≡ turns
    pub leads : LeadsByAll calls before after

  -- all that the greeting gave was sent
  abbrev pub SendsNow : (before : Greeting) → (given : Option (List ℕ)) → (link : L) → (after : Greeting) → (left : L) → Type 0
  SendsNow before given link after left = (busy : Bool) → Drives 0 (moment (state before given busy) link) (moment (state after None busy) left)

  -- it was driven for as many turns, or for fewer, and then no answer is awaited
  pub record TurnsMade (turns : ℕ) (before after : GreetMoment L) : Type 0 where
    pub made : ℕ
    pub few : made ≤ turns
    pub drives : Drives made before after
    pub ended : (made ≡ turns) ⊎ (is_heeded after.state.greeting.stage ≡ false)

-- how that ended
abbrev pub end_of : (answered busy : Bool) → GreetEnd
end_of true busy = ends.Answered
end_of false true = ends.Busy
end_of false false = ends.Silent

-- The greeting was begun, or went on, and was driven over its link for so many turns, or for fewer, and then no answer is awaited. It ended so.
pub record GreetsOver {L : Type 0} (of : Ghosts L) (turns : ℕ) (before : Greeting) (link : L) (after : Greeting) (end : GreetEnd) (left : L) : Type 0 where
  pub begun : Greeting
  pub first : Option (List ℕ)
  pub is_begun : IsStepResult begun first (begun_at before before.stage)
  pub busy : Bool
  pub driven : TurnsMade of turns (moment (state begun first false) link) (moment (state after None busy) left)
  pub ends : end ≡ end_of (is_over after.stage) busy
