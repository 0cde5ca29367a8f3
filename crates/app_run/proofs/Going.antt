-- A manager that ran its plan, while its journal was kept and the line of its progress was written.
use Rattle.std.specs.Prelude.{Option, Result, Ok, Err, IfOk, IfErr, OnErr}
use Rattle.std.proofs.Common.{◌≡◌, ℕ, List, Bool, inl, inr, refl, subst, sym}
use Rattle.wire_links.specs.declared.udp_link.UdpLink.{UdpLink}
use Rattle.wire_links.specs.contracts.udp_link.UdpLinkLink.TheImpl as udp
use Rattle.wire_links.specs.Counted.{none_counted}
use Rattle.model_undo.specs.declared.call.Call.TheVariants.{Start}
use Rattle.model_undo.specs.declared.phase.Phase.{Phase}
use Rattle.model_lab.specs.Meaning.{lab_names}
use Rattle.undo_core.specs.declared.manager.Manager.{Manager}
use Rattle.undo_core.specs.Shown.{Represents}
use Rattle.bmc_ports.specs.declared.observer.KeptBack.{KeptBack}
use Rattle.bmc_ports.specs.Conversation.{BothLinks, links}
use Rattle.bmc_ports.specs.Driving.{Links, both}
use Rattle.bmc_ports.specs.Observing.{permit_at}
use Rattle.app_base.specs.declared.ending.ReportFault.{ReportFault}
use Rattle.app_journal.specs.declared.files.WriteFault.{WriteFault}
use Rattle.app_journal.specs.declared.files.WritesFiles.{Ghosts}
use Rattle.app_journal.specs.declared.reviving.ReviveFault.{ReviveFault}
use Rattle.app_journal.specs.declared.undo_files.UndoFiles.{UndoFiles}
use Rattle.app_journal.specs.Beside.{Writings, Renamings}
use Rattle.app_journal.specs.Reviving.{IsFault}
use Rattle.app_journal.proofs.LookedAt.{SeesSo, keeps_looks}
use Rattle.app_run.specs.declared.kept_run.Ran.{Ran}
use Rattle.app_run.specs.declared.progress.PlanOutline.{PlanOutline}
use Rattle.app_run.specs.declared.progress.Progress.{Progress}
use Rattle.app_run.specs.declared.running.Outcome.{Outcome}
use Rattle.app_run.specs.declared.running.RunWords.{RunWords}
use Rattle.app_run.specs.Course.{RunCourse}
use Rattle.app_run.specs.Driven.{DriveEnd, DrivenState, GoesAgain}
use Rattle.app_run.specs.Outcome.{ComesBeside, ComesFrom, KeepsRan, RunsBeside}
use Rattle.app_run.specs.Told.{LooksOn, LooksOnWay}
use Rattle.app_run.specs.Ways.{NeverRevived, RunsFrom, RunsTo, SettlesUnkept}
use Rattle.app_run.proofs.Driving.{fresh}
use Rattle.app_run.proofs.Ways.{seen_as}

-- ---- what is kept

module _ {Files : Type 0} (takes : Writings Files) (renames : Renamings Files) (before : DrivenState) (words : RunWords) (first manager : Manager) (end : DriveEnd)
    (ipmb smbus left_ipmb left_smbus : UdpLink) where
  -- a manager was told to start over links of its own, and that became of it
  pub ran_to : {Watch : Type 0} (sees : Watch → Manager → Bool → Watch → Type 0) (beside : Watch → UndoFiles) (text : Watch → List ℕ) (files : Watch → Files)
      → ((old : Watch) (m : Manager) (allowed : Bool) (new : Watch) → sees old m allowed new → SeesSo takes renames beside text files old m allowed new)
      → (old new : Watch) → ipmb.counts ≡ none_counted → smbus.counts ≡ none_counted → Represents lab_names first before
      → GoesAgain words.again Start words.turns before manager end (both ipmb.counts smbus.counts) (both left_ipmb.counts left_smbus.counts)
      → RunCourse sees udp.ghosts udp.ghosts Start first manager (links ipmb smbus) (links left_ipmb left_smbus) (permit_at end) old new
      → RunsTo takes renames (beside old) before words manager end (links left_ipmb left_smbus) (text old) (text new) (files old) (files new)
  ran_to sees beside text files so old new none also shows goes run = record {
    links = links ipmb smbus;
    fresh = fresh _ _ none also;
    goes = subst (λ (over : Links). GoesAgain words.again Start words.turns before manager end over (both left_ipmb.counts left_smbus.counts)) (fresh _ _ none also) goes;
    looks = run.looks;
    way = run.course lab_names before shows;
    keeps = keeps_looks takes renames beside text files sees so run.looks old new run.seen;
  }

  -- and the line told of it
  pub looked_on : {Watch Writer : Type 0} (out : Writer → Option (List ℕ)) (sees : Watch → Manager → Bool → Watch → Type 0) (course : Watch → PlanOutline) (line : Watch → Progress Writer)
      → ((old : Watch) (m : Manager) (allowed : Bool) (new : Watch) → sees old m allowed new
      → LooksOn out (course old).kinds.now (course old).steps (line old) m (line new) × (course new ≡ course old))
      → (old new : Watch) → ipmb.counts ≡ none_counted → smbus.counts ≡ none_counted → Represents lab_names first before
      → RunCourse sees udp.ghosts udp.ghosts Start first manager (links ipmb smbus) (links left_ipmb left_smbus) (permit_at end) old new
      → LooksOnWay out (course old).kinds.now (course old).steps before manager (line old) (line new)
  looked_on out sees course line so old new none also shows run = record {
    end = end;
    counts = both left_ipmb.counts left_smbus.counts;
    looks = run.looks;
    way = record {
      links = links ipmb smbus;
      left = links left_ipmb left_smbus;
      fresh = fresh _ _ none also;
      counted = refl;
      way = run.course lab_names before shows;
    };
    tells = seen_as sees course line (λ by. LooksOn out by.kinds.now by.steps) so run.looks old new run.seen;
  }

-- ---- a journal that couldn't be kept

module _ {Files : Type 0} (takes : Writings Files) (renames : Renamings Files) (beside : UndoFiles) (words : RunWords) (first : Manager) (kept : KeptBack) (left : BothLinks UdpLink UdpLink)
    (had has : List ℕ) (old mid new : Files) where
  settled_from : (before : DrivenState) (manager : Manager) (phase : Phase) (answer : Result (Unit {0}) WriteFault) → RunsTo takes renames beside before words first (Err kept) left had has old mid
      → SettlesUnkept takes renames beside words.turns manager phase answer left has mid new → RunsFrom takes renames beside before words manager phase answer had old new
  settled_from before manager phase (Ok done) runs settles = absurd settles
  settled_from before manager phase (Err why) runs settles = record { kept = kept; first = first; left = left; has = has; mid = mid; runs = runs; settles = settles }

  -- what is open was settled, or no manager could be made of the last text
  pub ran_unkept : (manager : Manager) (came : Result Ran ReviveFault)
      → ((before : DrivenState) → Represents lab_names manager before → RunsTo takes renames beside before words first (Err kept) left had has old mid)
      → IfOk came (λ ran. SettlesUnkept takes renames beside words.turns ran.manager ran.phase ran.kept left has mid new) → IfErr came (λ why. IsFault why has) → OnErr came (new ≡ mid)
      → RunsBeside takes renames beside manager words came had old new
  ran_unkept manager (Ok ran) runs settles fault same = λ before shows. settled_from before ran.manager ran.phase ran.kept (runs before shows) settles
  ran_unkept manager (Err why) runs settles fault same = λ before shows. record {
    kept = kept;
    first = first;
    left = left;
    has = has;
    runs = subst (λ (files : Files). RunsTo takes renames beside before words first (Err kept) left had has old files) (sym same) (runs before shows);
    fault = fault;
  }

-- ---- what comes of it

module _ {Files : Type 0} (files : Ghosts Files) (beside : UndoFiles) (manager : Manager) (words : RunWords) (had : List ℕ) (old mid new : Files) where
  -- its list was kept, or not
  pub comes_of : (came : Result Ran ReviveFault) (outcome : Result Outcome ReportFault) → RunsBeside files.takes files.renames beside manager words came had old mid
      → KeepsRan files beside came outcome mid new → ComesBeside files beside manager words had outcome old new
  comes_of (Ok ran) outcome runs (inl (last, is, kept)) = λ before shows.
      subst (λ (o : Result Outcome ReportFault). ComesFrom files beside before words had o old new) (sym is) (ran.manager, ran.kept, last, mid, runs before shows, kept, refl)
  comes_of (Ok ran) outcome runs (inr (is, over, same)) = λ before shows.
      subst (λ (o : Result Outcome ReportFault). ComesFrom files beside before words had o old new) (sym is) (inl (
        ran.manager,
        ran.phase,
        ran.kept,
        over,
        subst (λ (at : Files). RunsFrom files.takes files.renames beside before words ran.manager ran.phase ran.kept had old at) (sym same) (runs before shows),
      ))
  comes_of (Err why) outcome runs (is, same) = λ before shows.
      subst (λ (o : Result Outcome ReportFault). ComesFrom files beside before words had o old new) (sym is)
      (inr (why, subst (λ (at : Files). NeverRevived files.takes files.renames beside before words why had old at) (sym same) (runs before shows)))
