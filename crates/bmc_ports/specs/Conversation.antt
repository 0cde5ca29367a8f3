-- What a manager that is driven over two links hears over them, and what it sends.
use Rattle.std.specs.Prelude.{◌≡◌, ℕ, List, [], ◌∷◌, Option, Some, None, option_map, Result, Ok, Err}
use Rattle.two_wire.specs.declared.Bus.{Bus}
use Rattle.two_wire.specs.declared.Bus.TheVariants.{Ipmb, Smbus}
use Rattle.wire_links.specs.declared.link.Heard.{Heard}
use Rattle.wire_links.specs.declared.link.LinkFault.{LinkFault}
use Rattle.wire_links.specs.declared.link.Link.{Ghosts}
use Rattle.wire_links.specs.Trace.{Sending, Gives, SendsTo}
use Rattle.undo_plans.specs.declared.names.Names.{Names}
use Rattle.model_undo.specs.declared.call.Call.TheVariants as call
use Rattle.model_lab.specs.ManagerSteps.{ManagerStepResult, board_plans}
use Rattle.undo_core.specs.declared.manager.Manager.{Manager}
use Rattle.undo_core.specs.declared.sending.Sent.{Sent}
use Rattle.undo_core.specs.Shown.{Represents}
use Rattle.undo_core.specs.Course.{Frames, Input, Calls, IsDeed, frames_of}
use Rattle.bmc_ports.specs.Driving.{DrivenState, Answers, call_for, open_at}

-- the frames that a manager gave, with their bus
abbrev pub frames_given : Option Sent → Option Frames
frames_given None = None
frames_given (Some sent) = Some (record { on = sent.bus; frames = sent.frames.items })

-- IPMB's link and SMBus's
pub record BothLinks (A B : Type 0) : Type 0 where
  pub ipmb : A
  pub smbus : B

-- a manager, its links, and the frames that it gave and that aren't sent yet
pub record Moment (A B : Type 0) (names : Names) : Type 0 where
  pub manager : DrivenState names
  pub links : BothLinks A B
  pub unsent : Option Frames

-- `next` of the link of a bus was called and answered so, or frames were sent over the link of their bus, which came to this
pub data LinkCall : Type 0 where
  Next : (on : Bus) (answer : Result Heard LinkFault) → LinkCall
  Send : (sent : Frames) (answer : Sending) → LinkCall

-- the manager heard this, if anything, and what it gave for it is to be sent
pub record IsTold {A B : Type 0} (names : Names) (input : Input) (before after : Moment A B names) : Type 0 where
  pub deed : ManagerStepResult (board_plans names)
  pub is : IsDeed names input before.manager deed
  pub manager : after.manager ≡ deed.manager
  pub gave : after.unsent ≡ option_map (frames_of names) deed.sent

module _ {A B : Type 0} (one : Ghosts A) (two : Ghosts B) where
  -- `next` of the link of this bus answered so, and the other link is as it was
  abbrev pub GivesOn : Bus → (before : BothLinks A B) → Result Heard LinkFault → (after : BothLinks A B) → Type 0
  GivesOn Ipmb before answer after = Gives one before.ipmb answer after.ipmb × (after.smbus ≡ before.smbus)
  GivesOn Smbus before answer after = Gives two before.smbus answer after.smbus × (after.ipmb ≡ before.ipmb)

  -- the link of this bus sent these frames, up to a fault, and the other link is as it was
  abbrev pub SendsOn : Bus → (before : BothLinks A B) → List (List ℕ) → Sending → (after : BothLinks A B) → Type 0
  SendsOn Ipmb before frames answer after = SendsTo one answer before.ipmb frames after.ipmb × (after.smbus ≡ before.smbus)
  SendsOn Smbus before frames answer after = SendsTo two answer before.smbus frames after.smbus × (after.ipmb ≡ before.ipmb)

  module _ (names : Names) where
    -- What the manager gave was sent, up to a fault: after a fault it's told that no reply came.
    abbrev pub IsSentBy : Frames → Sending → (before after : Moment A B names) → Type 0
    IsSentBy sent (Ok done) before after = (after.manager ≡ before.manager) × (after.unsent ≡ None)
    IsSentBy sent (Err fault) before after = IsTold names (Calls call.Quiet) before after

    -- A call of a link led from one moment to the next. All that the manager gave is sent before `next` is called, and that of the link on which its
    -- request is open. The manager hears the very frame that the link gave.
    abbrev pub LeadsBy : LinkCall → (before after : Moment A B names) → Type 0
    LeadsBy (Next on answer) before after =
        (before.unsent ≡ None) × (open_at names before.manager ≡ Some on) × GivesOn on before.links answer after.links
        × IsTold names (call_for (Answers on answer)) before after
    LeadsBy (Send sent answer) before after =
        (before.unsent ≡ Some sent) × SendsOn sent.on before.links sent.frames answer after.links × IsSentBy sent answer before after

    -- the calls did, one after another
    abbrev pub LeadsByAll : List LinkCall → (before after : Moment A B names) → Type 0
    LeadsByAll [] before after = before ≡ after
    LeadsByAll (made ∷ later) before after = (mid : Moment A B names) × LeadsBy made before mid × LeadsByAll later mid after

    -- So a manager that had given this to send came to be this one, and its links these, by calls of the links, and all that it gave is sent, up to a
    -- fault.
    pub record HeardAndSent (before : DrivenState names) (given : Option Sent) (manager : Manager) (links left : BothLinks A B) : Type 0 where
      pub after : DrivenState names
      pub shown : Represents names manager after
      pub calls : List LinkCall
      pub leads : LeadsByAll calls (record { manager = before; links = links; unsent = frames_given given })
          (record { manager = after; links = left; unsent = None })

-- both links
abbrev pub links : {A B : Type 0} → A → B → BothLinks A B
links ipmb smbus = record { ipmb = ipmb; smbus = smbus }
