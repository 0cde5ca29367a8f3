-- What comes to a manager that is driven, what its links count of that, and where it ends.
use Rattle.std.specs.Prelude.{◌≡◌, ◌≤◌, ◌+◌, ◌⊎◌, ◌↔◌, ℕ, List, [], ◌∷◌, sum_by, Option, Some, None, Result, Ok, Err, if◌then◌else◌}
use Rattle.two_wire.specs.declared.Bus.{Bus}
use Rattle.two_wire.specs.declared.Bus.TheVariants.{Ipmb, Smbus}
use Rattle.wire_links.specs.declared.link.Counts.{Counts}
use Rattle.wire_links.specs.declared.link.Heard.{Heard}
use Rattle.wire_links.specs.declared.link.Heard.TheVariants.{Frame, Quiet}
use Rattle.wire_links.specs.declared.link.LinkFault.{LinkFault}
use Rattle.wire_links.specs.Counted.{counted_on}
use Rattle.wire_links.specs.Trace.{Sending}
use Rattle.undo_plans.specs.declared.names.Names.{Names}
use Rattle.model_undo.specs.declared.phase.Phase.{Phase}
use Rattle.model_undo.specs.Machine.{phase_of, open_bus, same_bus}
use Rattle.model_undo.specs.declared.call.Call.TheVariants as call
use Rattle.model_lab.specs.ManagerSteps.{ManagerState, ManagerStepResult, board_plans}
use Rattle.undo_core.specs.declared.manager.Manager.{Manager}
use Rattle.undo_core.specs.Shown.{words_of, Represents}
use Rattle.undo_core.specs.Course.{Input, Calls, Hears, IsDeed}

-- ---- what a link comes to

-- `next` of the link of a bus answered so, or `send` of it failed
pub data Turnout : Type 0 where
  Answers : (on : Bus) (answer : Result Heard LinkFault) → Turnout
  FailsToSend : (on : Bus) → Turnout

-- The call of the manager for it: it hears the frame that was heard. Of all else it is told that no reply came.
abbrev pub call_for : Turnout → Input
call_for (Answers on (Ok (Frame bytes))) = Hears on bytes
call_for (Answers on (Ok Quiet)) = Calls call.Quiet
call_for (Answers on (Err fault)) = Calls call.Quiet
call_for (FailsToSend on) = Calls call.Quiet

-- ---- what the link of a bus counts of it

-- a number of what is on this bus alone
abbrev pub where_on : Bus → Bus → ℕ → ℕ
where_on on at number = if same_bus on at then number else 0

-- a frame that was heard is one
abbrev pub heard_in : Result Heard LinkFault → ℕ
heard_in (Ok (Frame bytes)) = 1
heard_in (Ok Quiet) = 0
heard_in (Err fault) = 0

-- a failure is one
abbrev pub failed_in : Result Heard LinkFault → ℕ
failed_in (Ok heard) = 0
failed_in (Err fault) = 1

-- so it is of a sending
abbrev pub faults_in : Sending → ℕ
faults_in (Ok done) = 0
faults_in (Err fault) = 1

-- calls of `next`
abbrev pub calls_on : Bus → Turnout → ℕ
calls_on on (Answers at answer) = where_on on at 1
calls_on on (FailsToSend at) = 0

-- frames that were heard
abbrev pub heard_on : Bus → Turnout → ℕ
heard_on on (Answers at answer) = where_on on at (heard_in answer)
heard_on on (FailsToSend at) = 0

-- calls that failed
abbrev pub failures_on : Bus → Turnout → ℕ
failures_on on (Answers at answer) = where_on on at (failed_in answer)
failures_on on (FailsToSend at) = where_on on at 1

-- the link of the bus has counted as many calls, frames and failures as there are among these
pub record HasCounted (on : Bus) (came : List Turnout) (before after : Counts) : Type 0 where
  pub calls : after.calls ≡ counted_on before.calls (sum_by (calls_on on) came)
  pub heard : after.heard ≡ counted_on before.heard (sum_by (heard_on on) came)
  pub failures : after.failures ≡ counted_on before.failures (sum_by (failures_on on) came)

-- what both links have counted
pub record Links : Type 0 where
  pub ipmb : Counts
  pub smbus : Counts

abbrev pub both : Counts → Counts → Links
both ipmb smbus = record { ipmb = ipmb; smbus = smbus }

-- each link has counted what came on its bus
abbrev pub HaveCounted : List Turnout → Links → Links → Type 0
HaveCounted came before after = HasCounted Ipmb came before.ipmb after.ipmb × HasCounted Smbus came before.smbus after.smbus

-- a link counted no call of `next`, and so many failures
pub record CountsFailures (more : ℕ) (before after : Counts) : Type 0 where
  pub calls : after.calls ≡ before.calls
  pub heard : after.heard ≡ before.heard
  pub failures : after.failures ≡ counted_on before.failures more

-- a frame wasn't sent over one of the links
abbrev pub LinkFails : Links → Links → Type 0
LinkFails before after = (on : Bus) × HaveCounted (FailsToSend on ∷ []) before after

-- the turns among these: the calls of `next` of both links
abbrev pub turns_in : List Turnout → ℕ
turns_in came = sum_by (calls_on Ipmb) came + sum_by (calls_on Smbus) came

-- ---- what that makes of the manager

module _ (names : Names) where
  abbrev pub DrivenState : Type 0
  DrivenState = ManagerState (board_plans names)

  -- the bus on which its request is open
  abbrev pub open_at : DrivenState → Option Bus
  open_at s = open_bus (words_of names) s.machine

  -- `next` is called of the link on which the request is open
  abbrev pub IsOpenFor : Turnout → DrivenState → Type 0
  IsOpenFor (Answers on answer) s = open_at s ≡ Some on
  IsOpenFor (FailsToSend on) s = Unit {0}

  -- the calls for the turnouts, one after another, make the second manager of the first
  abbrev pub ReachesBy : List Turnout → DrivenState → DrivenState → Type 0
  ReachesBy [] before after = before ≡ after
  ReachesBy (came ∷ later) before after =
      (d : ManagerStepResult (board_plans names)) × IsOpenFor came before × IsDeed names (call_for came) before d × ReachesBy later d.manager after

  -- so many turns lead from the manager and the counts before to the manager and the counts after
  pub record LeadsThrough (turns : ℕ) (before after : DrivenState) (had has : Links) : Type 0 where
    pub came : List Turnout
    pub turns_made : turns_in came ≡ turns
    pub reaches : ReachesBy came before after
    pub counted : HaveCounted came had has

  -- A manager was driven for as many turns, or for fewer, and then no request is open.
  pub record DrivenTurns (turns : ℕ) (before after : DrivenState) (had has : Links) : Type 0 where
    pub made : ℕ
    pub few : made ≤ turns
    pub leads : LeadsThrough made before after had has
    pub ended : (made ≡ turns) ⊎ (open_at after ≡ None)

  -- so many turns leave this manager
  pub record LeadsTo (turns : ℕ) (before : DrivenState) (m : Manager) (had has : Links) : Type 0 where
    pub after : DrivenState
    pub shown : Represents names m after
    pub leads : LeadsThrough turns before after had has

  -- what drives a manager for so many turns leaves this manager, in this phase
  pub record DriveResult (turns : ℕ) (before : DrivenState) (m : Manager) (phase : Phase) (had has : Links) : Type 0 where
    pub after : DrivenState
    pub shown : Represents names m after
    pub is_phase : phase ≡ phase_of (words_of names) after.machine
    pub driven : DrivenTurns turns before after had has

-- A manager was driven for some turns, and from where that ended for others.
pub record DrivenTwice (names : Names) (turns more : ℕ) (before after : DrivenState names) (had has : Links) : Type 0 where
  pub between : DrivenState names
  pub met : Links
  pub begins : DrivenTurns names turns before between had met
  pub ends : DrivenTurns names more between after met has

-- That is being driven for all of them.
abbrev pub DrivesOn : Type 0
DrivesOn = (names : Names) (turns more : ℕ) (before after : DrivenState names) (had has : Links)
    → DrivenTwice names turns more before after had has ↔ DrivenTurns names (turns + more) before after had has
