-- What comes of a plan, and what it leaves of FILE.
use Rattle.std.specs.Prelude.{String, ◌≡◌, ◌⊎◌, ℕ, List, Bool, true, false, None, Some, Option, Result, Ok, Err, string_bytes}
use Rattle.std.specs.declared.alloc.Global.{Global}
use Rattle.undo_plans.specs.declared.plan.Plan.{Plan}
use Rattle.undo_plans.specs.declared.undo_list.UndoList.{UndoList}
use Rattle.text_lines.specs.UndoText.{text_of}
use Rattle.model_undo.specs.declared.call.Call.TheVariants.{Start, Again}
use Rattle.model_undo.specs.declared.phase.Phase.{Phase}
use Rattle.model_lab.specs.Meaning.{lab_names}
use Rattle.undo_core.specs.declared.manager.Manager.{Manager}
use Rattle.undo_core.specs.Shown.{Represents}
use Rattle.bmc_ports.specs.declared.observer.KeptBack.{KeptBack}
use Rattle.app_base.specs.declared.files.TextFiles as texts
use Rattle.app_journal.specs.declared.files.WriteFault.{WriteFault}
use Rattle.app_journal.specs.declared.files.WritesFiles as written
use Rattle.app_journal.specs.declared.reviving.ReviveFault.{ReviveFault}
use Rattle.app_journal.specs.declared.undo_files.UndoFiles.{UndoFiles}
use Rattle.app_journal.specs.Beside.{Change, GivesUndo}
use Rattle.app_journal.specs.Keeping.{IsJournalText, PutsJournal}
use Rattle.app_journal.specs.Reviving.{IsFault, IsMadeOf}
use Rattle.app_run.specs.declared.greeting.GreetFault.{GreetFault}
use Rattle.app_run.specs.declared.greeting.GreetFault.TheVariants as fault
use Rattle.app_run.specs.declared.greeting.Greetings.{Greetings}
use Rattle.app_run.specs.declared.greeting.Unanswered.{Unanswered}
use Rattle.app_run.specs.Driven.{DriveEnd, HasList, is_over, opened_with}
use Rattle.app_run.specs.Greeted.{AreGreeted, greetings_before_run}
use Rattle.app_apply.specs.declared.applying.Applied.{Applied}
use Rattle.app_apply.specs.declared.applying.ApplyWords.{ApplyWords}
use Rattle.app_apply.specs.declared.applying.Ran.{Ran}
use Rattle.app_apply.specs.declared.guarding.Guard.{Guard}
use Rattle.app_apply.specs.declared.guarding.Guard.TheVariants as guard
use Rattle.app_apply.specs.declared.guarding.Guarded.{Guarded}
use Rattle.app_apply.specs.declared.outcome.Outcome.{Outcome}
use Rattle.app_apply.specs.declared.outcome.Outcome.TheVariants.{Held, Occupied, Unmade, Ungreeted, NoLink, Ended}
use Rattle.app_apply.specs.Guard.{Guards}
use Rattle.app_apply.specs.Kept.{KeepsWay, IsPhaseOf, most_turns}

-- the first of two answers that is a fault
abbrev pub first_fault : (first last : Result (Unit {0}) WriteFault) → Result (Unit {0}) WriteFault
first_fault (Ok done) last = last
first_fault (Err why) last = Err why

-- why nothing is begun where a greeting failed
abbrev pub ungreeted_by : GreetFault → Outcome
ungreeted_by fault.NoLink = NoLink
ungreeted_by (fault.Unanswered why) = Ungreeted why

-- no manager is made of the text
abbrev pub IsUnmade : (text : List ℕ) → Type 0
IsUnmade text = (why : ReviveFault) × IsFault why text

module _ {Files : Type 0} (files : written.Ghosts Files) (beside : UndoFiles) where
  -- The manager that is made of the text that the file of the journal has settles what is open, while its journal is kept. Or no link can be had,
  -- and it does nothing.
  abbrev pub Settles : (agains : ℕ) → (manager : Manager) → (had has : List ℕ) → (old new : Files) → Type 0
  Settles agains manager had has old new =
      (revived : Manager) × IsMadeOf had revived
      × (((end : DriveEnd) × KeepsWay files.takes files.renames beside agains Again revived manager end had has old new)
      ⊎ ((manager ≡ revived) × (has ≡ had) × (new ≡ old)))

  -- A manager began its plan, and went its way while its journal was kept. Where the journal couldn't be kept, its frames were kept back, and the
  -- manager that is made of the last text settled what is open.
  abbrev pub RunsOut : (agains : ℕ) → (before manager : Manager) → Phase → Result (Unit {0}) WriteFault → (had has : List ℕ) → (old new : Files) → Type 0
  RunsOut agains before manager phase (Ok kept) had has old new =
      KeepsWay files.takes files.renames beside agains Start before manager (Ok phase) had has old new
  RunsOut agains before manager phase (Err why) had has old new =
      (first : Manager) × (back : KeptBack) × (text : List ℕ) × (mid : Files)
      × KeepsWay files.takes files.renames beside agains Start before first (Err back) had text old mid
      × Settles agains manager text has mid new × IsPhaseOf manager phase

  -- a manager ran its plan so; or no link could be had, and nothing is done
  abbrev pub MayRun : (agains : ℕ) → (before manager : Manager) → (had has : List ℕ) → (old new : Files) → Option Ran → Type 0
  MayRun agains before manager had has old new (Some ran) = RunsOut agains before manager ran.phase ran.kept had has old new
  MayRun agains before manager had has old new None = (manager ≡ before) × (has ≡ had) × (new ≡ old)

  -- its journal couldn't be kept, and no manager could be made of the last text
  abbrev pub NeverSettles : (agains : ℕ) → (before : Manager) → (had : List ℕ) → (old new : Files) → Type 0
  NeverSettles agains before had old new =
      (first : Manager) × (back : KeptBack) × (text : List ℕ)
      × KeepsWay files.takes files.renames beside agains Start before first (Err back) had text old new × IsUnmade text

  -- FILE gets the undo text of the manager's list, where the plan ended or halted, and this is answered. Else nothing is done.
  abbrev pub KeepsList : (over : Bool) → Manager → Change Files
  KeepsList true manager old answer new = (list : UndoList) × HasList manager list × GivesUndo files beside (text_of list) old answer new
  KeepsList false manager old answer new = (answer ≡ Ok tt) × (new ≡ old)

  -- So comes to an end what was begun with this text in FILE, once the controller was greeted: the manager ran, and FILE got its list. Or no link
  -- could be had. Or memory was refused, for the list's text or for the manager that settles.
  abbrev pub Ends : {Refused : Type 0} → (agains : ℕ) → (before manager : Manager) → (had : List ℕ) → Result Outcome Refused → (old new : Files) → Type 0
  Ends agains before manager had (Ok (Ended phase answer)) old new =
      (kept last : Result (Unit {0}) WriteFault) × (has : List ℕ) × (mid : Files)
      × RunsOut agains before manager phase kept had has old mid × KeepsList (is_over phase) manager mid last new × (answer ≡ first_fault kept last)
  Ends agains before manager had (Ok NoLink) old new = (manager ≡ before) × (new ≡ old)
  Ends agains before manager had (Ok came) old new = ⊥
  Ends agains before manager had (Err refused) old new =
      ((phase : Phase) × (kept : Result (Unit {0}) WriteFault) × (has : List ℕ) × (is_over phase ≡ true) × RunsOut agains before manager phase kept had has old new)
      ⊎ NeverSettles agains before had old new

  -- Each greeting was answered, and the manager began. Or one wasn't, or no link could be had, and nothing was begun.
  abbrev pub GoesGreeted : {Refused : Type 0} → Greetings → (agains : ℕ) → (before manager : Manager) → (had : List ℕ) → Result Outcome Refused → (old new : Files) → Type 0
  GoesGreeted greetings agains before manager had came old new =
      (AreGreeted greetings most_turns None × Ends agains before manager had came old new)
      ⊎ (((why : Unanswered) × AreGreeted greetings most_turns (Some why) × (came ≡ Ok (Ungreeted why)) × (manager ≡ before) × (new ≡ old))
      ⊎ ((came ≡ Ok NoLink) × (manager ≡ before) × (new ≡ old)))

  -- FILE gets the journal of a manager that did nothing, before anything is sent. Where it can't, nothing is sent.
  abbrev pub Begins : {Refused : Type 0} → Greetings → (agains : ℕ) → (before manager : Manager) → (text : List ℕ) → Result Outcome Refused → (old new : Files) → Type 0
  Begins greetings agains before manager text came old new =
      ((made : Files) × PutsJournal files.takes files.renames beside text old (Ok tt) made × GoesGreeted greetings agains before manager text came made new)
      ⊎ ((why : WriteFault) × PutsJournal files.takes files.renames beside text old (Err why) new × (came ≡ Ok Unmade) × (manager ≡ before))

-- ---- with FILE

-- what came of the manager, and of what FILE had
abbrev pub applied_by : {Refused : Type 0} → Manager → Option (String Global) → Result Outcome Refused → Result Applied Refused
applied_by manager aside (Ok outcome) = Ok (record { manager = manager; outcome = outcome; aside = aside })
applied_by manager aside (Err refused) = Err refused

-- a plan isn't begun
abbrev pub unbegun : (before : Manager) → Outcome → Applied
unbegun before outcome = record { manager = before; outcome = outcome; aside = None }

-- FILE is taken, and the manager begins; or memory is refused on the way
pub record BeginsIn {Files Refused : Type 0} (files : written.Ghosts Files) (greetings : Greetings) (agains : ℕ) (before : Manager) (text : List ℕ) (guarded : Guarded)
    (came : Result Applied Refused) (old new : Files) : Type 0 where
  pub manager : Manager
  pub outcome : Result Outcome Refused
  pub begins : Begins files guarded.beside greetings agains before manager text outcome old new
  pub comes : came ≡ applied_by manager guarded.aside outcome

module _ {Files Refused : Type 0} (read : texts.Ghosts Files) (files : written.Ghosts Files) where
  -- What came of taking FILE: it is held by another, or has something, and nothing is begun. Or it was taken, and the manager begins. Or memory was
  -- refused.
  abbrev pub GoesGuarded : Greetings → (agains : ℕ) → (before : Manager) → (text : List ℕ) → Result Guard Refused → Result Applied Refused → (old new : Files) → Type 0
  GoesGuarded greetings agains before text (Ok (guard.Taken guarded)) came old new = BeginsIn files greetings agains before text guarded came old new
  GoesGuarded greetings agains before text (Ok guard.Held) came old new = (came ≡ Ok (unbegun before Held)) × (new ≡ old)
  GoesGuarded greetings agains before text (Ok (guard.Occupied standing)) came old new = (came ≡ Ok (unbegun before (Occupied standing))) × (new ≡ old)
  GoesGuarded greetings agains before text (Err refused) came old new = (came ≡ Err refused) × (new ≡ old)

  -- So a plan comes to an end: a manager of it is made, FILE is held and looked at, gets the manager's journal, and so on.
  pub record ApplyWay (plan : Plan) (words : ApplyWords) (came : Result Applied Refused) (old new : Files) : Type 0 where
    pub before : Manager
    pub opened : Represents lab_names before (opened_with plan)
    pub text : List ℕ
    pub is : IsJournalText text before
    pub taken : Result Guard Refused
    pub mid : Files
    pub guards : Guards read files (string_bytes words.file) words.replace taken old mid
    pub goes : GoesGuarded (greetings_before_run true plan) words.reach.again before text taken came mid new

  -- or memory is refused before, and nothing is done
  abbrev pub ApplyEnd : Plan → ApplyWords → Result Applied Refused → (old new : Files) → Type 0
  ApplyEnd plan words came old new = ApplyWay plan words came old new ⊎ ((refused : Refused) × (came ≡ Err refused) × (new ≡ old))
