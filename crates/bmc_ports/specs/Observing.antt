-- What looks at a manager that is driven, and what goes out once it allowed that.
use Rattle.std.specs.Prelude.{◌≡◌, ◌≤◌, ◌⊎◌, ℕ, Bool, true, false, List, [], ◌∷◌, Option, Some, None, Result, Ok, Err}
use Rattle.wire_links.specs.declared.link.Link.{Ghosts}
use Rattle.undo_plans.specs.declared.names.Names.{Names}
use Rattle.undo_core.specs.declared.manager.Manager.{Manager}
use Rattle.undo_core.specs.declared.sending.Sent.{Sent}
use Rattle.undo_core.specs.Shown.{Represents}
use Rattle.undo_core.specs.Course.{Frames}
use Rattle.model_undo.specs.declared.phase.Phase.{Phase}
use Rattle.bmc_ports.specs.declared.observer.KeptBack.{KeptBack}
use Rattle.bmc_ports.specs.Driving.{DrivenState, Links, DriveResult, LeadsTo}
use Rattle.bmc_ports.specs.Conversation.{BothLinks, Moment, LinkCall, Next, Send, LeadsBy, frames_given}

-- ---- looks

-- a look at a manager, and whether its frames may go out
pub record Look : Type 0 where
  pub manager : Manager
  pub allowed : Bool

-- what looks made these looks, one after another
abbrev pub SeesAll : {Watch : Type 0} → (sees : Watch → Manager → Bool → Watch → Type 0) → List Look → (old new : Watch) → Type 0
SeesAll sees [] old new = new ≡ old
SeesAll sees (look ∷ later) old new = (mid : _) × sees old look.manager look.allowed mid × SeesAll sees later mid new

-- one of them didn't allow it
abbrev pub HasRefusal : List Look → Type 0
HasRefusal [] = ⊥
HasRefusal (look ∷ later) = (look.allowed ≡ false) ⊎ HasRefusal later

-- ---- what may go out

-- The manager wasn't looked at since it last heard something or was called; or the look allowed its frames to go out; or it didn't.
pub data Permit : Type 0 where
  Unseen : Permit
  MaySend : Permit
  MayNot : Permit

-- that of a look
abbrev pub permit_of : Bool → Permit
permit_of true = MaySend
permit_of false = MayNot

-- that of what a manager gave before it was looked at: nothing is to be sent, or that may be
abbrev pub permit_for : Option Frames → Permit
permit_for None = MaySend
permit_for (Some sent) = Unseen

-- that at the end of a drive
abbrev pub permit_at : {End : Type 0} → Result End KeptBack → Permit
permit_at (Ok end) = MaySend
permit_at (Err kept) = MayNot

-- ---- the course of a drive

-- a link is called, or the manager is looked at
pub data DriveStep : Type 0 where
  CallsLink : LinkCall → DriveStep
  LooksAt : Look → DriveStep

-- the looks among these
abbrev pub looks_in : List DriveStep → List Look
looks_in [] = []
looks_in (CallsLink call ∷ later) = looks_in later
looks_in (LooksAt look ∷ later) = look ∷ looks_in later

-- Frames are sent, and `next` is called, where a look allowed it. What is given for a sending that failed may be sent, too: the manager's journal is
-- as it was. What is given for what `next` gave waits for the next look.
abbrev pub PermitBy : DriveStep → (before after : Permit) → Type 0
PermitBy (CallsLink (Next on answer)) before after = (before ≡ MaySend) × (after ≡ Unseen)
PermitBy (CallsLink (Send sent answer)) before after = (before ≡ MaySend) × (after ≡ MaySend)
PermitBy (LooksAt look) before after = (before ≡ Unseen) × (after ≡ permit_of look.allowed)

-- nothing waits to be sent at the end, unless it may not
abbrev pub IsLeft : Permit → Option Frames → Type 0
IsLeft MaySend unsent = unsent ≡ None
IsLeft Unseen unsent = Unit {0}
IsLeft MayNot unsent = Unit {0}

-- a moment of a drive, and what may go out then
pub record SeenMoment (A B : Type 0) (names : Names) : Type 0 where
  pub at : Moment A B names
  pub permit : Permit

module _ {A B : Type 0} (one : Ghosts A) (two : Ghosts B) (names : Names) where
  -- A step led from one moment to the next. A look is at the very manager of the moment, and changes nothing of it.
  abbrev pub MovesBy : DriveStep → (before after : Moment A B names) → Type 0
  MovesBy (CallsLink call) before after = LeadsBy one two names call before after
  MovesBy (LooksAt look) before after = Represents names look.manager before.manager × (after ≡ before)

  -- the steps did, one after another
  abbrev pub StepsBy : List DriveStep → (before after : SeenMoment A B names) → Type 0
  StepsBy [] before after = before ≡ after
  StepsBy (step ∷ later) before after =
      (mid : SeenMoment A B names) × MovesBy step before.at mid.at × PermitBy step before.permit mid.permit × StepsBy later mid after

  -- a manager that had given this to send, at first
  abbrev pub begins_at : DrivenState names → BothLinks A B → Option Sent → Permit → SeenMoment A B names
  begins_at s links given permit = record { at = record { manager = s; links = links; unsent = frames_given given }; permit = permit }

  -- So the manager came to be this one, and its links these, with these looks on the way.
  pub record SeenCourse (begin : Permit) (before : DrivenState names) (given : Option Sent) (looks : List Look) (manager : Manager) (links left : BothLinks A B) (end : Permit) : Type 0 where
    pub after : DrivenState names
    pub unsent : Option Frames
    pub shown : Represents names manager after
    pub steps : List DriveStep
    pub looked : looks_in steps ≡ looks
    pub leads : StepsBy steps (begins_at before links given begin) (record { at = record { manager = after; links = left; unsent = unsent }; permit = end })
    pub is_left : IsLeft end unsent

  -- what it gave was sent, up to a fault, and nobody looked at it
  abbrev pub SentAll : (before : DrivenState names) → (given : Option Sent) → Manager → (links left : BothLinks A B) → Type 0
  SentAll before given manager links left = SeenCourse MaySend before given [] manager links left MaySend

-- A manager that had given this to send came to be the second one over links, and an observer looked at it. The looks are the same whatever the manager
-- shows.
pub record Observed {Watch A B : Type 0} (sees : Watch → Manager → Bool → Watch → Type 0) (one : Ghosts A) (two : Ghosts B) (begin : Permit) (given : Option Sent)
    (before after : Manager) (links left : BothLinks A B) (end : Permit) (old new : Watch) : Type 0 where
  pub looks : List Look
  pub seen : SeesAll sees looks old new
  pub refused : end ≡ MayNot → HasRefusal looks
  pub course : (names : Names) (s : DrivenState names) → Represents names before s → SeenCourse one two names begin s given looks after links left end

-- ---- where a drive ends

module _ (names : Names) where
  -- frames were kept back in one of the turns, or before
  pub record KeepsBack (turns : ℕ) (before : DrivenState names) (m : Manager) (had has : Links) : Type 0 where
    pub made : ℕ
    pub few : made ≤ turns
    pub leads : LeadsTo names made before m had has

  -- a drive of at most so many turns leaves this manager
  abbrev pub DrivesTo : (turns : ℕ) → DrivenState names → Manager → Result Phase KeptBack → (had has : Links) → Type 0
  DrivesTo turns before m (Ok phase) had has = DriveResult names turns before m phase had has
  DrivesTo turns before m (Err kept) had has = KeepsBack turns before m had has
