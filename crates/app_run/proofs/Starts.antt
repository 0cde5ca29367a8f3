-- A manager that was told to start, and is driven and called again.
use Rattle.std.specs.Prelude.{Option, Ok}
use Rattle.std.proofs.Common.{ℕ, Bool}
use Rattle.wire_links.specs.declared.link.Link.{Ghosts}
use Rattle.model_undo.specs.declared.call.Call.TheVariants.{Start}
use Rattle.model_lab.specs.Meaning.{lab_names}
use Rattle.undo_core.specs.declared.manager.Manager.{Manager}
use Rattle.undo_core.specs.declared.sending.Sent.{Sent}
use Rattle.undo_core.specs.Shown.{CallStep, Represents}
use Rattle.bmc_ports.specs.Conversation.{BothLinks}
use Rattle.bmc_ports.specs.Driving.{Links, both}
use Rattle.app_run.specs.Driven.{DrivenState}
use Rattle.app_run.proofs.Courses.{SeenOn}
use Rattle.app_run.proofs.Tries.{Continues}

module _ {Watch A B : Type 0} (sees : Watch → Manager → Bool → Watch → Type 0) (one : Ghosts A) (two : Ghosts B) where
  abbrev counted : BothLinks A B → Links
  counted links = both (one.counts_of links.ipmb) (two.counts_of links.smbus)

  -- It gave this for that. Some turns and calls to try again are over, and others are left.
  pub record IsStarted (agains turns : ℕ) (before : Manager) (had : BothLinks A B) (old : Watch) (more left : ℕ) (m : Manager) (sent : Option Sent) (over : BothLinks A B) (watch : Watch) : Type 0 where
    pub started : Manager
    pub first : Option Sent
    pub calls : CallStep Start before started (Ok first)
    pub goes : (s : DrivenState) → Represents lab_names started s → Continues agains turns s (counted had) more left m (counted over)
    pub seen : SeenOn sees one two started m first sent had over old watch
