-- A looker that is driven over the links of both buses: what it hears, what it sends, and how that ends.
use Rattle.std.specs.Prelude.{◌≡◌, ◌≤◌, ◌⊎◌, ℕ, suc, List, [], ◌∷◌, Option, Some, None, IfSome, Result, Ok, Err}
use Rattle.two_wire.specs.declared.Bus.{Bus}
use Rattle.two_wire.specs.declared.Bus.TheVariants.{Ipmb, Smbus}
use Rattle.wire_links.specs.declared.link.Heard.{Heard}
use Rattle.wire_links.specs.declared.link.Heard.TheVariants.{Frame, Quiet}
use Rattle.wire_links.specs.declared.link.LinkFault.{LinkFault}
use Rattle.wire_links.specs.declared.link.Link.{Ghosts}
use Rattle.wire_links.specs.Trace.{Sending, Gives, Takes}
use Rattle.undo_look.specs.declared.looker.Looker.{Looker}
use Rattle.undo_look.specs.declared.stage.Stage.{Stage}
use Rattle.undo_look.specs.declared.stage.Stage.TheVariants.{AtStart, Opened, Found, Refused}
use Rattle.undo_look.specs.Requests.{bus_of}
use Rattle.undo_look.specs.Looks.{HearsFrame, IsStepResult, StepResult, awaited_on, open_on, quiet_at, rests, state_of}
use Rattle.app_look.specs.declared.look_driver.LookEnd.{LookEnd}
use Rattle.app_look.specs.declared.look_driver.LookEnd.TheVariants as ends

-- ---- the looker

-- a looker, and the frame that it gave and that isn't sent yet
pub record Looking : Type 0 where
  pub looker : Looker
  pub unsent : Option (List ℕ)

abbrev pub state : Looker → Option (List ℕ) → Looking
state looker unsent = record { looker = looker; unsent = unsent }

-- the step of a call, or that nothing comes of it
abbrev pub or_rests : Looker → Option StepResult → StepResult
or_rests looker (Some step) = step
or_rests looker None = rests (state_of looker)

-- it is told that no answer came; where it awaits none, nothing comes of that
abbrev pub quieted_at : Looker → StepResult
quieted_at looker = or_rests looker (quiet_at (state_of looker) looker.stage)

abbrev pub IsToldQuiet : (before after : Looking) → Type 0
IsToldQuiet before after = IsStepResult after.looker after.unsent (quieted_at before.looker)

-- it hears the frame that the link of the bus gave; of all else it is told that no answer came
abbrev pub Hears : (on : Bus) → Result Heard LinkFault → (before after : Looking) → Type 0
Hears on (Ok (Frame bytes)) before after = HearsFrame on bytes before.looker after.looker after.unsent
Hears on (Ok Quiet) before after = IsToldQuiet before after
Hears on (Err fault) before after = IsToldQuiet before after

-- its open request, if it has one, goes on this bus
abbrev pub IsOn : (on : Bus) → Stage → Type 0
IsOn on (Opened heeded target parts asked) = bus_of asked ≡ on
IsOn on AtStart = Unit {0}
IsOn on (Found target) = Unit {0}
IsOn on (Refused target code) = Unit {0}

-- what it gave is a frame of its open request, on this bus
abbrev pub IsGivenOn : (on : Bus) → Stage → Option (List ℕ) → Type 0
IsGivenOn on stage given = IfSome given (λ _. open_on stage ≡ Some on)

-- ---- the link of one bus

-- where a looker and a link are
pub record LookMoment (L : Type 0) : Type 0 where
  pub state : Looking
  pub link : L

abbrev pub moment : {L : Type 0} → Looking → L → LookMoment L
moment state link = record { state = state; link = link }

-- `next` of the link was called and answered so, or a frame was sent over it, which came to this
pub data LookCall : Type 0 where
  Next : (answer : Result Heard LinkFault) → LookCall
  Send : (frame : List ℕ) (answer : Sending) → LookCall

-- what the looker gave was sent; after a fault it's told that no answer came
abbrev pub IsSentBy : Sending → (before after : Looking) → Type 0
IsSentBy (Ok done) before after = after ≡ state before.looker None
IsSentBy (Err fault) before after = IsToldQuiet before after

-- the turns among these calls: those of `next`
abbrev pub turns_in : List LookCall → ℕ
turns_in [] = 0
turns_in (Next answer ∷ later) = suc (turns_in later)
turns_in (Send frame answer ∷ later) = turns_in later

module _ {L : Type 0} (of : Ghosts L) (on : Bus) where
  -- A call of the link of this bus led from one moment to the next. What the looker gave is sent over the link of its open request, before `next` is
  -- called, and that is called only while an answer is awaited on this bus. The looker hears the very frame that the link gave.
  abbrev pub LeadsBy : LookCall → (before after : LookMoment L) → Type 0
  LeadsBy (Next answer) before after =
      (before.state.unsent ≡ None) × (awaited_on before.state.looker.stage ≡ Some on) × Gives of before.link answer after.link
      × Hears on answer before.state after.state
  LeadsBy (Send frame answer) before after =
      (before.state.unsent ≡ Some frame) × (open_on before.state.looker.stage ≡ Some on) × Takes of before.link frame answer after.link
      × IsSentBy answer before.state after.state

  -- the calls did, one after another
  abbrev pub LeadsByAll : List LookCall → (before after : LookMoment L) → Type 0
  LeadsByAll [] before after = before ≡ after
  LeadsByAll (made ∷ later) before after = (mid : LookMoment L) × LeadsBy made before mid × LeadsByAll later mid after

  -- calls did, with so many turns among them
  pub record Drives (turns : ℕ) (before after : LookMoment L) : Type 0 where
    pub calls : List LookCall
    pub turns_made : turns_in calls ≡ turns
    pub leads : LeadsByAll calls before after

  -- it was driven for as many turns, or for fewer, and then no answer is awaited
  pub record TurnsMade (turns : ℕ) (before after : LookMoment L) : Type 0 where
    pub made : ℕ
    pub few : made ≤ turns
    pub drives : Drives made before after
    pub ended : (made ≡ turns) ⊎ (awaited_on after.state.looker.stage ≡ None)

-- ---- the links of both buses

-- how a look ended
abbrev pub end_at : Stage → LookEnd
end_at (Found target) = ends.Shown
end_at (Refused target code) = ends.Refused
end_at (Opened heeded target parts asked) = ends.Silent
end_at AtStart = ends.Silent

module _ {A B : Type 0} (one : Ghosts A) (two : Ghosts B) (turns : ℕ) (before : Looking) (ipmb : A) (smbus : B) (after : Looker) (ipmb_left : A) (smbus_left : B) where
  -- the looker was driven over the link of this bus, where its request is open, and nothing was called of the other link; where none is open, nothing
  -- was called
  abbrev pub DrivenOn : Option Bus → Type 0
  DrivenOn (Some Ipmb) = TurnsMade one Ipmb turns (moment before ipmb) (moment (state after None) ipmb_left) × (smbus_left ≡ smbus)
  DrivenOn (Some Smbus) = TurnsMade two Smbus turns (moment before smbus) (moment (state after None) smbus_left) × (ipmb_left ≡ ipmb)
  DrivenOn None = (state after None ≡ before) × (ipmb_left ≡ ipmb) × (smbus_left ≡ smbus)

-- The looker was called, which had the effect of the step, and was driven over the link of its open request for so many turns, or for fewer, and then
-- no answer is awaited. The look ended so.
pub record LooksOver {A B : Type 0} (one : Ghosts A) (two : Ghosts B) (turns : ℕ) (step : StepResult) (ipmb : A) (smbus : B) (after : Looker) (end : LookEnd)
    (ipmb_left : A) (smbus_left : B) : Type 0 where
  pub begun : Looker
  pub first : Option (List ℕ)
  pub is_begun : IsStepResult begun first step
  pub driven : DrivenOn one two turns (state begun first) ipmb smbus after ipmb_left smbus_left (open_on begun.stage)
  pub ends : end ≡ end_at after.stage
