-- How the undo of a journal ends.
use Rattle.std.specs.Prelude.{◌≡◌, ◌⊎◌, ℕ, List, [], ◌++◌, Option, true, false, Result, Ok, Err, codes, string_bytes}
use Rattle.text_lines.specs.Cuts.{ended}
use Rattle.text_journal.specs.declared.reading.JournalTextFault.TheVariants as bad
use Rattle.text_journal.specs.FaultNames.{fault_name}
use Rattle.undo_core.specs.declared.manager.Manager.{Manager}
use Rattle.app_base.specs.declared.console.Console.{Console}
use Rattle.app_base.specs.declared.console.Stream.TheVariants.{Error}
use Rattle.app_base.specs.declared.ending.ReportFault.{ReportFault}
use Rattle.app_base.specs.declared.status.Status.TheVariants.{RefusedFile}
use Rattle.app_base.specs.Ending.{Saying, RunEnds, SaysReport}
use Rattle.app_journal.specs.declared.reviving.ReviveFault.{ReviveFault}
use Rattle.app_journal.specs.declared.reviving.ReviveFault.TheVariants as fault
use Rattle.app_journal.specs.declared.undo_files.UndoFiles.{UndoFiles}
use Rattle.app_journal.specs.Beside.{IsOwn, IsStream, Writings, Renamings}
use Rattle.app_journal.specs.Reviving.{IsFault, IsMadeOf}
use Rattle.app_run.specs.declared.reverting.Reverted.{Reverted}
use Rattle.app_run.specs.declared.reverting.Reverted.TheVariants.{Ended, Ungreeted}
use Rattle.app_run.specs.declared.undoing.UndoWords.{UndoWords}
use Rattle.app_run.specs.Driven.{DriveEnd}
use Rattle.app_run.specs.Ends.{EndsUngreeted, PrintsNothing, SaysFile, SaysPhase}
use Rattle.app_run.specs.Lines.{others_line}
use Rattle.app_run.specs.Reverting.{RevertsText}
use Rattle.app_run.specs.Strict.{undone_status}

-- the text begins as that of a journal does
abbrev pub IsJournal : (text : List ℕ) → Type 0
IsJournal text = (rest : List ℕ) × (text ≡ ended (codes "journal 1") ++ rest)

-- ---- what is said

-- of a journal of which no manager is made
abbrev pub journal_line : ReviveFault → List ℕ
journal_line (fault.Line line) = ended (codes "journal " ++ fault_name (bad.Line line))
journal_line fault.Retries = ended (codes "journal Retries")
journal_line fault.OtherNames = others_line
journal_line fault.Memory = []

-- standard error says it, unless memory was refused
abbrev pub SaysJournalFault : ReviveFault → Saying
SaysJournalFault fault.Memory stream said status = ⊥
SaysJournalFault why stream said status = (stream ≡ Error) × (said ≡ journal_line why) × (status ≡ RefusedFile)

-- of a manager that came to this end: its phase, or the file that the words name, which didn't take the journal
abbrev pub SaysEnd : UndoWords → DriveEnd → Saying
SaysEnd words (Ok phase) = SaysPhase phase (undone_status words.strict phase)
SaysEnd words (Err kept) = SaysFile (string_bytes words.undo)

-- the words are those beside a journal's own file, which is one of the files that are held
abbrev pub IsOwnOf : (held beside : UndoFiles) → Type 0
IsOwnOf held beside =
    ((held.is_stream ≡ false) × IsOwn (string_bytes held.undo) beside) ⊎ ((held.is_stream ≡ true) × IsStream (string_bytes held.undo) beside)

-- ---- how it ends

module _ {Stdout Stderr : Type 0} (out : Stdout → Option (List ℕ)) (err : Stderr → Option (List ℕ)) where
  -- what came of a manager is said; or that a greeting wasn't answered; or nothing, where a link couldn't be had
  abbrev pub EndsReverted : UndoWords → Result Reverted ReportFault → (old new : Console Stdout Stderr) → ℕ → Type 0
  EndsReverted words (Ok (Ended end)) old new result = RunEnds out err (SaysEnd words end) old new result
  EndsReverted words (Ok (Ungreeted phase why)) old new result =
      RunEnds out err PrintsNothing old new result ⊎ EndsUngreeted out err phase why words.strict old new result
  EndsReverted words (Err why) old new result = RunEnds out err (SaysReport (Err why)) old new result

module _ {Files Stdout Stderr : Type 0} (out : Stdout → Option (List ℕ)) (err : Stderr → Option (List ℕ)) (takes : Writings Files) (renames : Renamings Files) where
  -- a manager takes back what it did, whose journal has the text, in the file that is held, and that is said by the word of that
  pub record EndsMade (manager : Manager) (held : UndoFiles) (text : List ℕ) (words : UndoWords) (before after : Files) (old new : Console Stdout Stderr) (result : ℕ) : Type 0 where
    pub beside : UndoFiles
    pub own : IsOwnOf held beside
    pub came : Result Reverted ReportFault
    pub reverts : RevertsText takes renames beside words manager came text before after
    pub said : EndsReverted out err words came old new result

  -- So ends the undo of the text of a journal in a file that is held. No manager is made of it, and that is said. Or memory was refused then. Or a manager is made,
  -- takes back what it did, and keeps its journal in that file.
  abbrev pub JournalEnds : (held : UndoFiles) → (text : List ℕ) → UndoWords → (before after : Files) → (old new : Console Stdout Stderr) → ℕ → Type 0
  JournalEnds held text words before after old new result =
      ((why : ReviveFault) × IsFault why text × (after ≡ before) × RunEnds out err (SaysJournalFault why) old new result)
      ⊎ (((after ≡ before) × RunEnds out err PrintsNothing old new result)
      ⊎ ((manager : Manager) × IsMadeOf text manager × EndsMade manager held text words before after old new result))
