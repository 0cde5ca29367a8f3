-- What becomes of a manager that was made of a journal, and of the journal's file meanwhile.
use Rattle.std.specs.Prelude.{◌≡◌, ◌⊎◌, ◌&&◌, ℕ, List, Bool, true, false, not, None, Some, Result, Ok, Err}
use Rattle.undo_plans.specs.declared.undo_list.UndoList.{UndoList}
use Rattle.model_undo.specs.declared.call.Call.{Call}
use Rattle.model_undo.specs.declared.call.Call.TheVariants.{Undo, Again}
use Rattle.model_undo.specs.declared.phase.Phase.{Phase}
use Rattle.model_lab.specs.Meaning.{lab_names}
use Rattle.undo_core.specs.declared.manager.Manager.{Manager}
use Rattle.undo_core.specs.Journals.{kept_by}
use Rattle.undo_core.specs.Shown.{Represents}
use Rattle.bmc_ports.specs.Driving.{Links}
use Rattle.bmc_ports.specs.Observing.{Look}
use Rattle.app_base.specs.declared.ending.ReportFault.{ReportFault}
use Rattle.app_base.specs.declared.ending.ReportFault.TheVariants.{Memory, Stopped}
use Rattle.app_journal.specs.declared.undo_files.UndoFiles.{UndoFiles}
use Rattle.app_journal.specs.Beside.{Writings, Renamings}
use Rattle.app_journal.specs.Keeping.{KeepsLooks, has_open}
use Rattle.app_run.specs.declared.greeting.GreetFault.{GreetFault}
use Rattle.app_run.specs.declared.greeting.GreetFault.TheVariants as fault
use Rattle.app_run.specs.declared.greeting.Greetings.{Greetings}
use Rattle.app_run.specs.declared.greeting.Unanswered.{Unanswered}
use Rattle.app_run.specs.declared.reverting.Recall.{Recall}
use Rattle.app_run.specs.declared.reverting.Recall.TheVariants as recall
use Rattle.app_run.specs.declared.reverting.Reverted.{Reverted}
use Rattle.app_run.specs.declared.reverting.Reverted.TheVariants.{Ended, Ungreeted}
use Rattle.app_run.specs.declared.undoing.UndoWords.{UndoWords}
use Rattle.app_run.specs.Course.{OwnWay}
use Rattle.app_run.specs.Driven.{DriveEnd, DrivenState, GoesAgain, HasList, fresh_links, is_over}
use Rattle.app_run.specs.Greeted.{AreGreeted, greetings_before_undo}

-- the call that settles an open request, and the one that takes back what was done
abbrev pub call_for : Recall → Call
call_for recall.Settle = Again
call_for recall.Undo = Undo

-- no request of the manager is open, so that nothing is settled
abbrev pub settles_none : Manager → Bool
settles_none manager = not (has_open (kept_by manager).stage)

-- The controller is greeted where the words ask for it, unless a request is settled first: it would forget what it answered, and carry out a late copy
-- of that.
abbrev pub greets_behind : UndoWords → Manager → Bool
greets_behind words manager = words.greet && settles_none manager

-- what comes of a greeting that failed, in this phase
abbrev pub left_ungreeted : Phase → GreetFault → Result Reverted ReportFault
left_ungreeted phase fault.NoLink = Err Stopped
left_ungreeted phase (fault.Unanswered why) = Ok (Ungreeted phase why)

-- what came of a manager, the text that the journal's file had and has, as far as puts were answered Ok, and the files
abbrev pub Reverting : Type 0 → Type 1
Reverting Files = Result Reverted ReportFault → (had has : List ℕ) → (old new : Files) → Type 0

module _ {Files : Type 0} (takes : Writings Files) (renames : Renamings Files) (beside : UndoFiles) where
  -- A manager was called so, and driven for at most so many turns over links of its own, to this end. At each look of its way its journal was kept.
  pub record KeptRun (call : Call) (turns : ℕ) (before : DrivenState) (manager : Manager) (end : DriveEnd) (had has : List ℕ) (old new : Files) : Type 0 where
    pub counts : Links
    pub goes : GoesAgain 0 call turns before manager end fresh_links counts
    pub looks : List Look
    pub way : OwnWay call before looks manager end counts
    pub kept : KeepsLooks takes renames beside looks had has old new

  -- this came of it, and nothing is done
  abbrev pub ComesTo : Result Reverted ReportFault → Reverting Files
  ComesTo this came had has old new = (came ≡ this) × (has ≡ had) × (new ≡ old)

  -- the same, whatever machine the manager showed before
  abbrev pub RunsKept : Call → (turns : ℕ) → Manager → (reached : Manager) → DriveEnd → (had has : List ℕ) → (old new : Files) → Type 0
  RunsKept call turns manager reached end had has old new =
      (before : DrivenState) → Represents lab_names manager before → KeptRun call turns before reached end had has old new

  -- A manager whose plan is over was told to undo once each of these greetings was answered. Or one wasn't, or no link could be had.
  abbrev pub Undoes : Greetings → (turns : ℕ) → Manager → Phase → Reverting Files
  Undoes greetings turns manager phase came had has old new =
      ((reached : Manager) × (end : DriveEnd) × AreGreeted greetings turns None × (came ≡ Ok (Ended end)) × RunsKept Undo turns manager reached end had has old new)
      ⊎ (((why : Unanswered) × AreGreeted greetings turns (Some why) × ComesTo (Ok (Ungreeted phase why)) came had has old new)
      ⊎ ComesTo (Err Stopped) came had has old new)

  -- Its open request was settled to this end: it is told to undo only where its plan is over then. Where it is to be greeted, that is before, for the
  -- next numbers of its list.
  abbrev pub GoesOn : (greet : Bool) → (turns : ℕ) → Manager → DriveEnd → Reverting Files
  GoesOn greet turns manager (Ok phase) came had has old new =
      ((is_over phase ≡ false) × ComesTo (Ok (Ended (Ok phase))) came had has old new)
      ⊎ ((is_over phase ≡ true)
      × ((list : UndoList) × HasList manager list × Undoes (greetings_before_undo greet list) turns manager phase came had has old new))
  GoesOn greet turns manager (Err kept) came had has old new = ComesTo (Ok (Ended (Err kept))) came had has old new

  -- A manager's open request is settled, where it has one, and the manager goes on: behind a greeting only where it had none. Or no link could be had.
  abbrev pub Reverts : UndoWords → Manager → Reverting Files
  Reverts words manager came had has old new =
      ((settled : Manager) × (end : DriveEnd) × (text : List ℕ) × (mid : Files) × RunsKept Again words.turns manager settled end had text old mid
      × GoesOn (greets_behind words manager) words.turns settled end came text has mid new)
      ⊎ ComesTo (Err Stopped) came had has old new

  -- the same, whatever text the journal's file has then
  abbrev pub RevertsText : UndoWords → Manager → Result Reverted ReportFault → (had : List ℕ) → (old new : Files) → Type 0
  RevertsText words manager came had old new = (has : List ℕ) × Reverts words manager came had has old new

  -- or memory was refused before, and nothing is done
  abbrev pub MayRevert : UndoWords → Manager → Result Reverted ReportFault → (had : List ℕ) → (old new : Files) → Type 0
  MayRevert words manager came had old new = RevertsText words manager came had old new ⊎ ((came ≡ Err Memory) × (new ≡ old))
