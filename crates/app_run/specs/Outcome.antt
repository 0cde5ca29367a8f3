-- What comes of a run of a plan, and what it leaves of the files.
use Rattle.std.specs.Prelude.{◌≡◌, ◌⊎◌, ℕ, List, Bool, true, false, None, Some, Result, Ok, Err}
use Rattle.undo_plans.specs.declared.plan.Plan.{Plan}
use Rattle.undo_plans.specs.declared.undo_list.UndoList.{UndoList}
use Rattle.text_lines.specs.UndoText.{text_of}
use Rattle.model_undo.specs.declared.phase.Phase.{Phase}
use Rattle.model_undo.specs.Machine.{phase_of}
use Rattle.model_lab.specs.Meaning.{lab_names}
use Rattle.undo_core.specs.declared.manager.Manager.{Manager}
use Rattle.undo_core.specs.Shown.{words_of, Represents}
use Rattle.app_base.specs.declared.ending.ReportFault.{ReportFault}
use Rattle.app_base.specs.declared.ending.ReportFault.TheVariants.{Memory, Stopped}
use Rattle.app_journal.specs.declared.files.WriteFault.{WriteFault}
use Rattle.app_journal.specs.declared.reviving.ReviveFault.{ReviveFault}
use Rattle.app_journal.specs.declared.undo_files.UndoFiles.{UndoFiles}
use Rattle.app_journal.specs.declared.files.WritesFiles.{Ghosts}
use Rattle.app_journal.specs.Beside.{Writings, Renamings, Change, GivesUndo, InSequence, PutsPart, RemovesPart}
use Rattle.app_journal.specs.Keeping.{IsJournalText}
use Rattle.app_run.specs.declared.greeting.GreetFault.{GreetFault}
use Rattle.app_run.specs.declared.greeting.GreetFault.TheVariants as fault
use Rattle.app_run.specs.declared.greeting.Greetings.{Greetings}
use Rattle.app_run.specs.declared.greeting.Unanswered.{Unanswered}
use Rattle.app_run.specs.declared.running.RunWords.{RunWords}
use Rattle.app_run.specs.declared.running.Outcome.{Outcome}
use Rattle.app_run.specs.declared.running.Outcome.TheVariants.{Ran, Unmade, Ungreeted}
use Rattle.app_run.specs.declared.kept_run.Ran.{Ran as AllRan}
use Rattle.app_run.specs.Driven.{DrivenState, HasList, is_over, opened_with}
use Rattle.app_run.specs.Greeted.{AreGreeted, greetings_before_run}
use Rattle.app_run.specs.Ways.{RunsFrom, NeverRevived}

-- the phase of a manager that did nothing
abbrev pub IsPhaseAt : DrivenState → Phase → Type 0
IsPhaseAt before phase = phase ≡ phase_of (words_of lab_names) before.machine

-- a greeting failed so, and the manager did nothing
abbrev pub StaysGreeted : (manager : Manager) → GreetFault → Result Outcome ReportFault → Type 0
StaysGreeted manager fault.NoLink outcome = outcome ≡ Err Stopped
StaysGreeted manager (fault.Unanswered why) outcome =
    (phase : Phase) × (outcome ≡ Ok (Ungreeted phase why)) × ((before : DrivenState) → Represents lab_names manager before → IsPhaseAt before phase)

-- the first of two answers that is a fault
abbrev pub first_fault : (first last : Result (Unit {0}) WriteFault) → Result (Unit {0}) WriteFault
first_fault (Ok done) last = last
first_fault (Err why) last = Err why

-- the same, whatever machine the manager showed before: a manager ran its plan, or none could be made of the last text of its journal
abbrev pub RunsBeside : {Files : Type 0} → Writings Files → Renamings Files → UndoFiles → (manager : Manager) → RunWords → Result AllRan ReviveFault → (had : List ℕ) → (old new : Files) → Type 0
RunsBeside takes renames beside manager words (Ok ran) had old new =
    (before : DrivenState) → Represents lab_names manager before → RunsFrom takes renames beside before words ran.manager ran.phase ran.kept had old new
RunsBeside takes renames beside manager words (Err why) had old new =
    (before : DrivenState) → Represents lab_names manager before → NeverRevived takes renames beside before words why had old new

module _ {Files : Type 0} (files : Ghosts Files) where
  -- The file of the undo text gets that of the manager's list, by its name alone, and then `.part` is removed, where the plan ended or halted, and these
  -- answer so. Else nothing is done.
  abbrev pub KeepsList : (over : Bool) → UndoFiles → Manager → Change Files
  KeepsList true beside manager old answer new =
      (list : UndoList) × HasList manager list
      × InSequence (GivesUndo files beside (text_of list)) (RemovesPart files.removes beside) old answer new
  KeepsList false beside manager old answer new = (answer ≡ Ok tt) × (new ≡ old)

  -- The manager ran so, and its list is kept or not; or memory for the text of that is refused; or no manager could be made of the last text of its journal.
  abbrev pub KeepsRan : UndoFiles → Result AllRan ReviveFault → Result Outcome ReportFault → (old new : Files) → Type 0
  KeepsRan beside (Ok ran) outcome old new =
      ((last : Result (Unit {0}) WriteFault) × (outcome ≡ Ok (Ran ran.phase (first_fault ran.kept last))) × KeepsList (is_over ran.phase) beside ran.manager old last new)
      ⊎ ((outcome ≡ Err Memory) × (is_over ran.phase ≡ true) × (new ≡ old))
  KeepsRan beside (Err why) outcome old new = (outcome ≡ Err Memory) × (new ≡ old)

  -- So comes to an end what was begun with this text in `.part`: the manager ran, and its journal and its list are kept or not; or no link could be had;
  -- or memory for the text of its last list was refused, or no manager could be made of the last text of its journal.
  abbrev pub ComesFrom : UndoFiles → DrivenState → RunWords → (had : List ℕ) → Result Outcome ReportFault → (old new : Files) → Type 0
  ComesFrom beside before words had (Ok (Ran phase answer)) old new =
      (manager : Manager) × (kept : Result (Unit {0}) WriteFault) × (last : Result (Unit {0}) WriteFault) × (mid : Files)
      × RunsFrom files.takes files.renames beside before words manager phase kept had old mid × KeepsList (is_over phase) beside manager mid last new × (answer ≡ first_fault kept last)
  ComesFrom beside before words had (Ok Unmade) old new = ⊥
  ComesFrom beside before words had (Ok (Ungreeted phase why)) old new = ⊥
  ComesFrom beside before words had (Err Stopped) old new = new ≡ old
  ComesFrom beside before words had (Err Memory) old new =
      ((manager : Manager) × (phase : Phase) × (kept : Result (Unit {0}) WriteFault) × (is_over phase ≡ true)
      × RunsFrom files.takes files.renames beside before words manager phase kept had old new)
      ⊎ ((why : ReviveFault) × NeverRevived files.takes files.renames beside before words why had old new)

  -- A greeting wasn't answered, and the manager did nothing.
  pub record StaysAt (greetings : Greetings) (before : DrivenState) (words : RunWords) (outcome : Result Outcome ReportFault) (old new : Files) : Type 0 where
    pub phase : Phase
    pub why : Unanswered
    pub is : outcome ≡ Ok (Ungreeted phase why)
    pub unanswered : AreGreeted greetings words.turns (Some why)
    pub phase_is : IsPhaseAt before phase
    pub same : new ≡ old

  -- So it goes on from there: each greeting was answered, and the manager was called. Or one wasn't, and nothing else was done. Or no link could
  -- be had, and nothing was done.
  abbrev pub GoesFrom : Greetings → UndoFiles → DrivenState → RunWords → (had : List ℕ) → Result Outcome ReportFault → (old new : Files) → Type 0
  GoesFrom greetings beside before words had outcome old new =
      (AreGreeted greetings words.turns None × ComesFrom beside before words had outcome old new)
      ⊎ (StaysAt greetings before words outcome old new
      ⊎ ((outcome ≡ Err Stopped) × (new ≡ old)))

  -- the same, whatever machine the manager showed before
  abbrev pub ComesBeside : UndoFiles → (manager : Manager) → RunWords → (had : List ℕ) → Result Outcome ReportFault → (old new : Files) → Type 0
  ComesBeside beside manager words had outcome old new =
      (before : DrivenState) → Represents lab_names manager before → ComesFrom beside before words had outcome old new

  abbrev pub ComesGreeted : Greetings → UndoFiles → (manager : Manager) → RunWords → (had : List ℕ) → Result Outcome ReportFault → (old new : Files) → Type 0
  ComesGreeted greetings beside manager words had outcome old new =
      (before : DrivenState) → Represents lab_names manager before → GoesFrom greetings beside before words had outcome old new

  -- `.part` is made, with the journal of a manager that did nothing, and this is answered
  abbrev pub MakesPart : Plan → UndoFiles → (text : List ℕ) → Change Files
  MakesPart plan beside text old answer new =
      (manager : Manager) × Represents lab_names manager (opened_with plan) × IsJournalText text manager × PutsPart files.takes files.renames beside text old answer new

  -- So a run of a plan comes to an end, with these files: `.part` is made first, and then it goes on; or that isn't made, and nothing else is done; or memory
  -- was refused before, and nothing is done.
  abbrev pub RunEnd : Plan → UndoFiles → RunWords → Result Outcome ReportFault → (old new : Files) → Type 0
  RunEnd plan beside words outcome old new =
      ((text : List ℕ) × (made : Files) × MakesPart plan beside text old (Ok tt) made
      × GoesFrom (greetings_before_run words.greet plan) beside (opened_with plan) words text outcome made new)
      ⊎ (((text : List ℕ) × (why : WriteFault) × (outcome ≡ Ok Unmade) × MakesPart plan beside text old (Err why) new)
      ⊎ ((outcome ≡ Err Memory) × (new ≡ old)))
