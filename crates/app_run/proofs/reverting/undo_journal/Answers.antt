use Rattle.std.specs.Prelude.{Option}
use Rattle.std.proofs.Common.{List, ℕ, Result, inl, inr, refl, subst}
use Rattle.undo_core.specs.declared.manager.Manager.{Manager}
use Rattle.app_base.specs.declared.console.Console.{Console}
use Rattle.app_base.specs.declared.ending.ReportFault.{ReportFault}
use Rattle.app_base.specs.EndingLaws.{run_reports}
use Rattle.app_journal.specs.declared.undo_files.UndoFiles.{UndoFiles}
use Rattle.app_journal.specs.Beside.{Renamings, Writings}
use Rattle.app_journal.specs.Reviving.{IsMadeOf}
use Rattle.app_run.specs.declared.reverting.Reverted.{Reverted}
use Rattle.app_run.specs.declared.undoing.UndoWords.{UndoWords}
use Rattle.app_run.specs.Ends.{PrintsNothing}
use Rattle.app_run.specs.JournalUndo.{EndsReverted, IsOwnOf, JournalEnds, SaysJournalFault}
use Rattle.app_run.specs.Reverting.{MayRevert}
use Rattle.app_run.proofs.Telling.{says_memory}
use Rattle.app_run.proofs.reverting.undo_journal.Goals as goal

-- what came of the manager is said, or that memory was refused
ends_of : {F W E : Type 0} (out : W → Option (List ℕ)) (err : E → Option (List ℕ)) (takes : Writings F) (renames : Renamings F) (manager : Manager) (held beside : UndoFiles) (text : List ℕ)
    (words : UndoWords) (came : Result Reverted ReportFault) (before after : F) (old new : Console W E) (result : ℕ) → IsMadeOf text manager → IsOwnOf held beside
    → MayRevert takes renames beside words manager came text before after → EndsReverted out err words came old new result
    → JournalEnds out err takes renames held text words before after old new result
ends_of out err takes renames manager held beside text words came before after old new result made own (inl reverts) said =
    inr (inr (manager, made, record { beside = beside; own = own; came = came; reverts = reverts; said = said }))
ends_of out err takes renames manager held beside text words came before after old new result made own (inr (memory, same)) said =
    inr (inl (
      same,
      says_memory out err PrintsNothing old new result
          (subst (λ (c : Result Reverted ReportFault). EndsReverted out err words c old new result) memory said),
    ))

pub returns-in-Err-clause-ends : goal.returns-in-Err-clause-ends
returns-in-Err-clause-ends g c =
    inl (
      c.in-Err.why,
      c.in-Err.ensures.fault,
      refl,
      run_reports g.W.Write.contents g.E.Write.contents (SaysJournalFault c.in-Err.why) c.journal_refusal.result c.args.console.now c.end_run.new.console c.end_run.result
          c.journal_refusal.ensures c.end_run.ensures,
    )

pub returns-in-Ok-kept_of-clause-ends : goal.returns-in-Ok-kept_of-clause-ends
returns-in-Ok-kept_of-clause-ends g c =
    let kept = c.in-Ok-kept_of.kept in
    let came = c.revert_told-reverted.result in
    ends_of g.W.Write.contents g.E.Write.contents g.F.WritesFiles.takes g.F.WritesFiles.renames c.in-Ok.manager c.args.held.now kept.beside c.args.text.now c.args.words.now came
    c.args.files.now c.revert_told-reverted.new.files c.args.console.now c.say_reverted.new.console c.say_reverted.result c.in-Ok.ensures.made c.in-Ok-kept_of.ensures.beside
    (subst (λ (text : List ℕ). MayRevert g.F.WritesFiles.takes g.F.WritesFiles.renames kept.beside c.args.words.now c.in-Ok.manager came text c.args.files.now c.revert_told-reverted.new.files)
    c.in-Ok-kept_of.ensures.text c.revert_told-reverted.ensures.reverts)
    c.say_reverted.ensures

pub returns-in-Ok-kept_of-clause-told : goal.returns-in-Ok-kept_of-clause-told
returns-in-Ok-kept_of-clause-told g c = inr (c.in-Ok.manager, c.in-Ok.ensures.made, c.revert_told-reverted.ensures.told)
