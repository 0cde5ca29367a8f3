-- What a manager that is called and driven over two links is called for, hears and sends, and when it is looked at.
use Rattle.std.specs.Prelude.{◌≡◌, List, [], ◌∷◌, ◌++◌, Bool, Option, Some, None, option_map}
use Rattle.wire_links.specs.declared.link.Link.{Ghosts}
use Rattle.wire_links.specs.declared.udp_link.UdpLink.{UdpLink}
use Rattle.wire_links.specs.contracts.udp_link.UdpLinkLink.TheImpl as udp
use Rattle.undo_plans.specs.declared.names.Names.{Names}
use Rattle.model_undo.specs.declared.call.Call.{Call}
use Rattle.model_undo.specs.declared.call.Call.TheVariants.{Again}
use Rattle.model_lab.specs.Meaning.{lab_names}
use Rattle.model_lab.specs.ManagerSteps.{ManagerStepResult, board_plans, called}
use Rattle.undo_core.specs.declared.manager.Manager.{Manager}
use Rattle.undo_core.specs.declared.sending.Sent.{Sent}
use Rattle.undo_core.specs.Shown.{Represents}
use Rattle.undo_core.specs.Course.{Frames, frames_of}
use Rattle.bmc_ports.specs.Driving.{DrivenState, Links, both}
use Rattle.bmc_ports.specs.Conversation.{BothLinks, frames_given}
use Rattle.bmc_ports.specs.Observing.{Look, SeesAll, HasRefusal, Permit, MaySend, MayNot, permit_for, permit_at, DriveStep, looks_in, SeenMoment, MovesBy, PermitBy, IsLeft, begins_at}
use Rattle.app_run.specs.Driven.{DriveEnd, fresh_links}

-- ---- steps

-- the manager is called; or, while it is driven, a link is called or the manager is looked at
pub data RunStep : Type 0 where
  CallsManager : Call → RunStep
  Drives : DriveStep → RunStep

-- the looks among these
abbrev pub looks_of : List RunStep → List Look
looks_of [] = []
looks_of (CallsManager call ∷ later) = looks_of later
looks_of (Drives step ∷ later) = looks_in (step ∷ []) ++ looks_of later

-- all calls among these are to try again
abbrev pub AreTries : List RunStep → Type 0
AreTries [] = Unit {0}
AreTries (CallsManager call ∷ later) = (call ≡ Again) × AreTries later
AreTries (Drives step ∷ later) = AreTries later

module _ (names : Names) where
  -- A manager is called once all that it gave is sent. What it gives for that waits for a look.
  pub record IsCalledFor {A B : Type 0} (call : Call) (before after : SeenMoment A B names) : Type 0 where
    pub deed : ManagerStepResult (board_plans names)
    pub takes : called (board_plans names) call before.at.manager ≡ Some deed
    pub sent : before.at.unsent ≡ None
    pub might : before.permit ≡ MaySend
    pub manager : after.at.manager ≡ deed.manager
    pub gave : after.at.unsent ≡ option_map (frames_of names) deed.sent
    pub links : after.at.links ≡ before.at.links
    pub permit : after.permit ≡ permit_for after.at.unsent

  -- The steps of a run: this call, and then calls to try again. Or none, where the phase isn't one for the call.
  abbrev pub BeginsBy : Call → DrivenState names → List RunStep → Type 0
  BeginsBy call before [] = called (board_plans names) call before ≡ None
  BeginsBy call before (CallsManager first ∷ later) = (first ≡ call) × AreTries later
  BeginsBy call before (Drives step ∷ later) = ⊥

-- ---- a course

module _ {A B : Type 0} (one : Ghosts A) (two : Ghosts B) (names : Names) where
  -- a step led from one moment to the next
  abbrev pub GoesBy : RunStep → (before after : SeenMoment A B names) → Type 0
  GoesBy (CallsManager call) before after = IsCalledFor names call before after
  GoesBy (Drives step) before after = MovesBy one two names step before.at after.at × PermitBy step before.permit after.permit

  -- the steps did, one after another
  abbrev pub GoesByAll : List RunStep → (before after : SeenMoment A B names) → Type 0
  GoesByAll [] before after = before ≡ after
  GoesByAll (step ∷ later) before after = (mid : SeenMoment A B names) × GoesBy step before mid × GoesByAll later mid after

  -- So a manager that had given this to send came to be this one, and its links these, by such steps, with these looks on the way.
  pub record WayBy (Are : DrivenState names → List RunStep → Type 0) (before : DrivenState names) (given : Option Sent) (looks : List Look) (manager : Manager) (links left : BothLinks A B) (end : Permit) : Type 0 where
    pub after : DrivenState names
    pub unsent : Option Frames
    pub shown : Represents names manager after
    pub steps : List RunStep
    pub are : Are before steps
    pub looked : looks_of steps ≡ looks
    pub leads : GoesByAll steps (begins_at one two names before links given (permit_for (frames_given given))) (record { at = record { manager = after; links = left; unsent = unsent }; permit = end })
    pub is_left : IsLeft end unsent

  -- it was driven, and called to try again
  abbrev pub TriesOn : DrivenState names → Option Sent → List Look → Manager → (links left : BothLinks A B) → (end : Permit) → Type 0
  TriesOn = WayBy (λ before. AreTries)

  -- it was called so, driven, and called to try again
  abbrev pub CallWay : Call → DrivenState names → List Look → Manager → (links left : BothLinks A B) → (end : Permit) → Type 0
  CallWay call before = WayBy (BeginsBy names call) before None

-- ---- what looks

module _ {Watch A B : Type 0} (sees : Watch → Manager → Bool → Watch → Type 0) (one : Ghosts A) (two : Ghosts B) where
  -- A manager came to be another one over links in such a way, and an observer looked at it. The looks are the same whatever the manager shows.
  pub record SeenRun (Way : (names : Names) → DrivenState names → List Look → Manager → (links left : BothLinks A B) → (end : Permit) → Type 0)
      (before after : Manager) (links left : BothLinks A B) (end : Permit) (old new : Watch) : Type 0 where
    pub looks : List Look
    pub seen : SeesAll sees looks old new
    pub refused : end ≡ MayNot → HasRefusal looks
    pub course : (names : Names) (s : DrivenState names) → Represents names before s → Way names s looks after links left end

  -- it was driven from what was given to send
  abbrev pub SeenTries : (before after : Manager) → (given : Option Sent) → (links left : BothLinks A B) → (end : Permit) → (old new : Watch) → Type 0
  SeenTries before after given = SeenRun (λ names s. TriesOn one two names s given) before after

  -- it was called so
  abbrev pub RunCourse : Call → (before after : Manager) → (links left : BothLinks A B) → (end : Permit) → (old new : Watch) → Type 0
  RunCourse call = SeenRun (λ names. CallWay one two names call)

-- ---- over links of its own

-- A manager was called so, and went its way over UDP links of its own, to this end, with these looks on the way.
pub record OwnWay (call : Call) (before : DrivenState lab_names) (looks : List Look) (manager : Manager) (end : DriveEnd) (counts : Links) : Type 0 where
  pub links : BothLinks UdpLink UdpLink
  pub left : BothLinks UdpLink UdpLink
  pub fresh : both links.ipmb.counts links.smbus.counts ≡ fresh_links
  pub counted : counts ≡ both left.ipmb.counts left.smbus.counts
  pub way : CallWay udp.ghosts udp.ghosts lab_names call before looks manager links left (permit_at end)
