-- The way of a manager that runs its plan while its journal is kept.
use Rattle.std.specs.Prelude.{◌≡◌, ℕ, List, Result, Ok, Err}
use Rattle.wire_links.specs.declared.udp_link.UdpLink.{UdpLink}
use Rattle.wire_links.specs.contracts.udp_link.UdpLinkLink.TheImpl as udp
use Rattle.model_undo.specs.declared.call.Call.TheVariants.{Start, Again}
use Rattle.model_undo.specs.declared.phase.Phase.{Phase}
use Rattle.model_undo.specs.Machine.{phase_of}
use Rattle.model_lab.specs.Meaning.{lab_names}
use Rattle.undo_core.specs.declared.manager.Manager.{Manager}
use Rattle.undo_core.specs.Shown.{words_of, Represents}
use Rattle.bmc_ports.specs.declared.observer.KeptBack.{KeptBack}
use Rattle.bmc_ports.specs.Conversation.{BothLinks}
use Rattle.bmc_ports.specs.Driving.{Links, both}
use Rattle.bmc_ports.specs.Observing.{Look, permit_at}
use Rattle.app_journal.specs.declared.files.WriteFault.{WriteFault}
use Rattle.app_journal.specs.declared.reviving.ReviveFault.{ReviveFault}
use Rattle.app_journal.specs.declared.undo_files.UndoFiles.{UndoFiles}
use Rattle.app_journal.specs.Beside.{Writings, Renamings}
use Rattle.app_journal.specs.Keeping.{KeepsLooks}
use Rattle.app_journal.specs.Reviving.{IsMadeOf, IsFault}
use Rattle.app_run.specs.declared.running.RunWords.{RunWords}
use Rattle.app_run.specs.Driven.{DriveEnd, DrivenState, GoesAgain, fresh_links}
use Rattle.app_run.specs.Course.{CallWay}

-- what UDP links have counted
abbrev pub counts_of : BothLinks UdpLink UdpLink → Links
counts_of links = both links.ipmb.counts links.smbus.counts

module _ {Files : Type 0} (takes : Writings Files) (renames : Renamings Files) (beside : UndoFiles) where
  -- A manager was told to start and ran its plan over links of its own, for at most so many turns, was called again up to so many times, and came to this
  -- end. Before each sending the file `.part` was given the manager's journal, where it had another one: at first it had one text, and at last the other.
  pub record RunsTo (before : DrivenState) (words : RunWords) (manager : Manager) (end : DriveEnd) (left : BothLinks UdpLink UdpLink) (had has : List ℕ) (old new : Files) : Type 0 where
    pub links : BothLinks UdpLink UdpLink
    pub fresh : counts_of links ≡ fresh_links
    pub goes : GoesAgain words.again Start words.turns before manager end fresh_links (counts_of left)
    pub looks : List Look
    pub way : CallWay udp.ghosts udp.ghosts lab_names Start before looks manager links left (permit_at end)
    pub keeps : KeepsLooks takes renames beside looks had has old new

  -- A manager was called to try again, over links that were left so, and was driven for at most so many turns: it settled what was open, unless no reply came.
  -- Its journal was kept, too. It is in this phase then.
  pub record Settles (revived : Manager) (turns : ℕ) (manager : Manager) (phase : Phase) (links : BothLinks UdpLink UdpLink) (had : List ℕ) (old new : Files) : Type 0 where
    pub end : DriveEnd
    pub left : BothLinks UdpLink UdpLink
    pub has : List ℕ
    pub goes : (state : DrivenState) → Represents lab_names revived state → GoesAgain 0 Again turns state manager end (counts_of links) (counts_of left)
    pub looks : List Look
    pub way : (state : DrivenState) → Represents lab_names revived state → CallWay udp.ghosts udp.ghosts lab_names Again state looks manager links left (permit_at end)
    pub keeps : KeepsLooks takes renames beside looks had has old new
    pub phase_is : (state : DrivenState) → Represents lab_names manager state → phase ≡ phase_of (words_of lab_names) state.machine

  -- the manager that is made of this text did
  abbrev pub SettlesText : (turns : ℕ) → Manager → Phase → (links : BothLinks UdpLink UdpLink) → (had : List ℕ) → (old new : Files) → Type 0
  SettlesText turns manager phase links had old new = (revived : Manager) × IsMadeOf had revived × Settles revived turns manager phase links had old new

  -- it did, and its journal isn't kept
  abbrev pub SettlesUnkept : (turns : ℕ) → Manager → Phase → Result (Unit {0}) WriteFault → (links : BothLinks UdpLink UdpLink) → (had : List ℕ) → (old new : Files) → Type 0
  SettlesUnkept turns manager phase (Ok kept) links had old new = ⊥
  SettlesUnkept turns manager phase (Err why) links had old new = SettlesText turns manager phase links had old new

  -- The journal of a manager on its way couldn't be kept, so its frames were kept back. The manager that is made of the last text that `.part` was given
  -- settled what that has open.
  pub record RunsUnkept (before : DrivenState) (words : RunWords) (manager : Manager) (phase : Phase) (had : List ℕ) (old new : Files) : Type 0 where
    pub kept : KeptBack
    pub first : Manager
    pub left : BothLinks UdpLink UdpLink
    pub has : List ℕ
    pub mid : Files
    pub runs : RunsTo before words first (Err kept) left had has old mid
    pub settles : SettlesText words.turns manager phase left has mid new

  -- so a manager ran its plan: its journal was kept at each look, or it wasn't
  abbrev pub RunsFrom : (before : DrivenState) → RunWords → Manager → Phase → Result (Unit {0}) WriteFault → (had : List ℕ) → (old new : Files) → Type 0
  RunsFrom before words manager phase (Ok kept) had old new =
      (left : BothLinks UdpLink UdpLink) × (has : List ℕ) × RunsTo before words manager (Ok phase) left had has old new
  RunsFrom before words manager phase (Err why) had old new = RunsUnkept before words manager phase had old new

  -- its journal couldn't be kept, and no manager could be made of the last text
  pub record NeverRevived (before : DrivenState) (words : RunWords) (why : ReviveFault) (had : List ℕ) (old new : Files) : Type 0 where
    pub kept : KeptBack
    pub first : Manager
    pub left : BothLinks UdpLink UdpLink
    pub has : List ℕ
    pub runs : RunsTo before words first (Err kept) left had has old new
    pub fault : IsFault why has
