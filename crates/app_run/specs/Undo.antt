-- How a run of `bmcnet undo` ends.
use Rattle.std.specs.Prelude.{◌≡◌, ◌⊎◌, ℕ, List, length, Bool, false, Some, None, Option, Result, Ok, Err, string_bytes}
use Rattle.std.specs.declared.alloc.AllocError.{AllocError}
use Rattle.undo_plans.specs.declared.undo_list.UndoList.{UndoList}
use Rattle.text_lines.specs.declared.undo_text.UndoFault.{UndoFault}
use Rattle.text_lines.specs.declared.undo_text.UndoFault.TheVariants as fault
use Rattle.text_lines.specs.UndoText.{IsTextOf, IsFirstBad}
use Rattle.model_undo.specs.declared.phase.Phase.TheVariants.{Undone}
use Rattle.model_lab.specs.Meaning.{lab_names}
use Rattle.undo_core.specs.Shown.{AreOthers, Represents}
use Rattle.app_base.specs.declared.console.Console.{Console}
use Rattle.app_base.specs.declared.console.Stream.TheVariants.{Error}
use Rattle.app_base.specs.declared.status.Status.TheVariants.{RefusedFile}
use Rattle.app_base.specs.declared.files.TextFiles as texts
use Rattle.app_base.specs.declared.ending.ReportFault.{ReportFault}
use Rattle.app_base.specs.declared.ending.ReportFault.TheVariants.{Memory}
use Rattle.app_base.specs.Ending.{Saying, RunEnds, SaysReport}
use Rattle.app_journal.specs.declared.files.WriteFault.{WriteFault}
use Rattle.app_journal.specs.declared.files.WritesFiles.{Ghosts}
use Rattle.app_journal.specs.declared.standing.Standing.{Standing}
use Rattle.app_journal.specs.declared.standing.Standing.TheVariants.{Nothing}
use Rattle.app_journal.specs.declared.undo_files.UndoFiles.{UndoFiles}
use Rattle.app_journal.specs.Beside.{Writings, Renamings, Removals, Change, PutsPart, RemovesPart}
use Rattle.app_journal.specs.Claiming.{HoldsFiles, StandsAt, may_go}
use Rattle.app_journal.specs.Keeping.{IsJournalText}
use Rattle.app_run.specs.declared.reverting.Reverted.{Reverted}
use Rattle.app_run.specs.declared.reverting.Reverted.TheVariants.{Ended}
use Rattle.app_run.specs.declared.undoing.ListEnd.{ListEnd}
use Rattle.app_run.specs.declared.undoing.ListEnd.TheVariants as end
use Rattle.app_run.specs.declared.undoing.Resumed.{Resumed}
use Rattle.app_run.specs.declared.undoing.UndoWords.{UndoWords}
use Rattle.app_run.specs.Driven.{resumed_from}
use Rattle.app_run.specs.Ends.{PrintsNothing, SaysFile}
use Rattle.app_run.specs.Greeted.{greetings_before_undo}
use Rattle.app_run.specs.JournalUndo.{IsJournal, JournalEnds, EndsReverted}
use Rattle.app_run.specs.Lines.{undo_line, others_line}
use Rattle.app_run.specs.Outcome.{IsPhaseAt}
use Rattle.app_run.specs.Reverting.{Undoes}
use Rattle.app_run.specs.Run.{EndsUnkept, SaysUnread}

-- ---- what becomes of a list

-- a manager that goes on from the list, and what is known of it
pub record IsResumed (list : UndoList) (greet : Bool) (resumed : Resumed) : Type 0 where
  pub shown : Represents lab_names resumed.manager (resumed_from list)
  pub phase : IsPhaseAt (resumed_from list) resumed.phase
  pub steps : resumed.steps ≡ length list.requests.members
  pub greetings : resumed.greetings ≡ greetings_before_undo greet list

-- it took back what its list says, as far as it came, and its journal, of which the file had this text, was kept there
abbrev pub UndoesFrom : {Files : Type 0} → Writings Files → Renamings Files → UndoFiles → Resumed → (turns : ℕ) → Result Reverted ReportFault → (had : List ℕ) → (old new : Files) → Type 0
UndoesFrom takes renames beside resumed turns came had old new =
    (has : List ℕ) × Undoes takes renames beside resumed.greetings turns resumed.manager resumed.phase came had has old new

-- the journal's file is removed where all was taken back, and else nothing is done
abbrev pub RemovesUndone : {Files : Type 0} → Removals Files → UndoFiles → Reverted → Change Files
RemovesUndone removes beside (Ended (Ok Undone)) = RemovesPart removes beside
RemovesUndone removes beside came = λ old answer new. (answer ≡ Ok tt) × (new ≡ old)

module _ {Files : Type 0} (files : Ghosts Files) where
  -- the journal's file is given the journal of a manager that goes on from a list
  abbrev pub MakesJournal : UndoFiles → Resumed → (text : List ℕ) → Change Files
  MakesJournal beside resumed text old answer new =
      IsJournalText text resumed.manager × PutsPart files.takes files.renames beside text old answer new

  -- That is made first. Where it can't be made, nothing is sent. Then the manager takes back what its list says, and the file is removed where all was taken back.
  -- Where no link can be had the file stays. Where memory is refused before, nothing is done.
  abbrev pub MadeEnds : UndoFiles → Resumed → (turns : ℕ) → Result ListEnd ReportFault → (old new : Files) → Type 0
  MadeEnds beside resumed turns (Ok end.OtherNames) old new = ⊥
  MadeEnds beside resumed turns (Ok end.Barred) old new = (text : List ℕ) × (why : WriteFault) × MakesJournal beside resumed text old (Err why) new
  MadeEnds beside resumed turns (Ok (end.Reverted came gone)) old new =
      (text : List ℕ) × (made : Files) × (mid : Files) × MakesJournal beside resumed text old (Ok tt) made
      × UndoesFrom files.takes files.renames beside resumed turns (Ok came) text made mid × RemovesUndone files.removes beside came mid gone new
  MadeEnds beside resumed turns (Err why) old new =
      ((why ≡ Memory) × (new ≡ old))
      ⊎ ((text : List ℕ) × (made : Files) × MakesJournal beside resumed text old (Ok tt) made
      × UndoesFrom files.takes files.renames beside resumed turns (Err why) text made new)

module _ {Files : Type 0} (read : texts.Ghosts Files) (files : Ghosts Files) (held : UndoFiles) (text : List ℕ) where
  -- Where the journal's file has something to take back that this undo text hasn't, or no journal, nothing is done.
  abbrev pub UnbarredEnds : Resumed → (turns : ℕ) → Result ListEnd ReportFault → (old new : Files) → Type 0
  UnbarredEnds resumed turns came old new =
      (StandsAt (read.gives old) (files.leads old) held text Nothing × MadeEnds files held resumed turns came old new)
      ⊎ (((standing : Standing) × StandsAt (read.gives old) (files.leads old) held text standing × (may_go standing ≡ false) × (came ≡ Ok end.Barred) × (new ≡ old))
      ⊎ ((came ≡ Err Memory) × (new ≡ old)))

  -- a list that has other names is refused; a manager goes on from another
  abbrev pub ListEnds : UndoList → UndoWords → Result ListEnd ReportFault → (old new : Files) → Type 0
  ListEnds list words came old new =
      ((resumed : Resumed) × (¬ AreOthers lab_names list.names) × IsResumed list words.greet resumed × UnbarredEnds resumed words.turns came old new)
      ⊎ ((AreOthers lab_names list.names × (came ≡ Ok end.OtherNames) × (new ≡ old))
      ⊎ ((came ≡ Err Memory) × (new ≡ old)))

-- ---- what is said

-- standard error says that a list has other names
abbrev pub SaysOthers : Saying
SaysOthers stream said status = (stream ≡ Error) × (said ≡ others_line) × (status ≡ RefusedFile)

-- or which line of an undo text is its first bad one
abbrev pub SaysLine : UndoFault → Saying
SaysLine fault.Memory stream said status = ⊥
SaysLine (fault.Line line) stream said status = (stream ≡ Error) × (said ≡ undo_line (fault.Line line)) × (status ≡ RefusedFile)

-- a text isn't read as an undo text for this
abbrev pub IsFault : UndoFault → (text : List ℕ) → Type 0
IsFault fault.Memory text = Unit {0}
IsFault (fault.Line line) text = IsFirstBad text line

-- So an undo of a list ends that came to this: it says the phase, and behind it the file whose journal isn't removed, or which greeting wasn't answered; or that the
-- list has other names; or the file that is barred or doesn't take the journal; or nothing, where a link can't be had.
abbrev pub EndsListed : {Stdout Stderr : Type 0} → (out : Stdout → Option (List ℕ)) → (err : Stderr → Option (List ℕ)) → UndoWords → Result ListEnd ReportFault → (old new : Console Stdout Stderr) → ℕ → Type 0
EndsListed out err words (Ok end.OtherNames) old new result = RunEnds out err SaysOthers old new result
EndsListed out err words (Ok end.Barred) old new result = RunEnds out err (SaysFile (string_bytes words.undo)) old new result
EndsListed out err words (Ok (end.Reverted came (Ok gone))) old new result = EndsReverted out err words (Ok came) old new result
EndsListed out err words (Ok (end.Reverted came (Err why))) old new result =
    RunEnds out err PrintsNothing old new result ⊎ EndsUnkept out err Undone (string_bytes words.undo) old new result
EndsListed out err words (Err why) old new result = RunEnds out err (SaysReport (Err why)) old new result

-- ---- how it ends

module _ {Files Stdout Stderr : Type 0} (out : Stdout → Option (List ℕ)) (err : Stderr → Option (List ℕ)) (read : texts.Ghosts Files) (files : Ghosts Files) where
  -- an undo of the text of a file that is held: of a journal, or of an undo text
  abbrev pub TextEnds : (held : UndoFiles) → (text : List ℕ) → UndoWords → (before after : Files) → (old new : Console Stdout Stderr) → ℕ → Type 0
  TextEnds held text words before after old new result =
      (IsJournal text × JournalEnds out err files.takes files.renames held text words before after old new result)
      ⊎ ((¬ IsJournal text)
      × (((list : UndoList) × (came : Result ListEnd ReportFault) × IsTextOf text list × ListEnds read files held text list words came before after
      × EndsListed out err words came old new result)
      ⊎ ((why : UndoFault) × IsFault why text × (after ≡ before) × RunEnds out err (SaysLine why) old new result)))

  -- one of a file that is held: its text is undone, or it can't be read
  abbrev pub UndoEndsIn : (held : UndoFiles) → UndoWords → (before after : Files) → (old new : Console Stdout Stderr) → ℕ → Type 0
  UndoEndsIn held words before after old new result =
      ((text : List ℕ) × read.gives before (string_bytes words.undo) (Ok text) × TextEnds held text words before after old new result)
      ⊎ ((after ≡ before) × RunEnds out err (SaysUnread (read.gives before) (string_bytes words.undo)) old new result)

  -- So an undo of the file of the word ends: it is held first. Where it can't be held, standard error names it, and nothing is done.
  abbrev pub UndoEndsOf : UndoWords → (before after : Files) → (old new : Console Stdout Stderr) → ℕ → Type 0
  UndoEndsOf words before after old new result =
      ((held : UndoFiles) × (mid : Files) × HoldsFiles {Refused = AllocError} files (string_bytes words.undo) (Ok (Some held)) before mid
      × UndoEndsIn held words mid after old new result)
      ⊎ ((HoldsFiles {Refused = AllocError} files (string_bytes words.undo) (Ok None) before after × RunEnds out err (SaysFile (string_bytes words.undo)) old new result)
      ⊎ ((refused : AllocError) × HoldsFiles files (string_bytes words.undo) (Err refused) before after × RunEnds out err PrintsNothing old new result))
