-- What is kept of a manager's list.
use Rattle.std.specs.Prelude.{Result}
use Rattle.std.proofs.Common.{◌≡◌, Bool, true, subst, sym}
use Rattle.text_lines.specs.UndoText.{text_of}
use Rattle.undo_plans.specs.declared.undo_list.UndoList.{UndoList}
use Rattle.undo_core.specs.declared.manager.Manager.{Manager}
use Rattle.app_journal.specs.declared.files.WriteFault.{WriteFault}
use Rattle.app_journal.specs.declared.undo_files.UndoFiles.{UndoFiles}
use Rattle.app_journal.specs.declared.files.WritesFiles.{Ghosts}
use Rattle.app_journal.specs.Beside.{GivesUndo, InSequence, RemovesPart}
use Rattle.app_run.specs.Driven.{HasList}
use Rattle.app_run.specs.Outcome.{KeepsList}

-- the text of the last list is put, where the plan is over, and then the journal is removed
pub kept_last : {Files : Type 0} (files : Ghosts Files) (m : Manager) (over : Bool) (beside : UndoFiles) (list : UndoList) (old new : Files)
    (answer : Result (Unit {0}) WriteFault) → over ≡ true → HasList m list
    → InSequence (GivesUndo files beside (text_of list)) (RemovesPart files.removes beside) old answer new → KeepsList files over beside m old answer new
kept_last files m over beside list old new answer is has kept = subst (λ (o : Bool). KeepsList files o beside m old answer new) (sym is) (list, has, kept)
