use Rattle.std.specs.Prelude.{Result, Option}
use Rattle.std.proofs.Common.{◌∙◌, ℕ, List, Ok, Err, Some, None, ap, inl, inr, subst, string_bytes}
use Rattle.std.specs.declared.alloc.AllocError.{AllocError}
use Rattle.app_base.specs.Ending.{RunEnds}
use Rattle.app_base.specs.EndingLaws.{run_reports}
use Rattle.app_journal.specs.declared.undo_files.UndoFiles.{UndoFiles}
use Rattle.app_journal.specs.Claiming.{HoldsFiles}
use Rattle.app_run.specs.Ends.{PrintsNothing, SaysFile}
use Rattle.app_run.proofs.Telling.{says_memory}
use Rattle.app_run.proofs.Ways.{untold_undo_file}
use Rattle.app_run.proofs.undoing.undo.Goals as goal

pub returns-in-Ok-Some-clause-ends : goal.returns-in-Ok-Some-clause-ends
returns-in-Ok-Some-clause-ends g c =
    inl (
      c.in-Ok-Some.held,
      c.hold_files.new.files,
      subst (λ (word : List ℕ). HoldsFiles {Refused = AllocError} g.F.WritesFiles word (Ok (Some c.in-Ok-Some.held)) c.args.files.now c.hold_files.new.files) c.as_str-word.ensures.value
          (subst (λ (came : Result (Option UndoFiles) AllocError). HoldsFiles g.F.WritesFiles c.as_str-word.result.now came c.args.files.now c.hold_files.new.files)
          (c.in-Ok-Some.is ∙ ap (λ (held : Option UndoFiles). Ok held) c.in-Ok-Some.field-0-is) c.hold_files.ensures),
      c.undo_held.ensures.ends,
    )

pub returns-in-Ok-None-clause-ends : goal.returns-in-Ok-None-clause-ends
returns-in-Ok-None-clause-ends g c =
    inr (inl (
      subst (λ (word : List ℕ). HoldsFiles {Refused = AllocError} g.F.WritesFiles word (Ok None) c.args.files.now c.hold_files.new.files) c.as_str-word.ensures.value
          (subst (λ (came : Result (Option UndoFiles) AllocError). HoldsFiles g.F.WritesFiles c.as_str-word.result.now came c.args.files.now c.hold_files.new.files)
          (c.in-Ok-None.is ∙ ap (λ (held : Option UndoFiles). Ok held) c.in-Ok-None.field-0-is) c.hold_files.ensures),
      subst (λ (word : List ℕ). RunEnds g.W.Write.contents g.E.Write.contents (SaysFile word) c.args.console.now c.end_run.new.console c.end_run.result) c.as_str-word.ensures.value
          (run_reports g.W.Write.contents g.E.Write.contents (SaysFile c.as_str-word.result.now) c.unmade.result c.args.console.now c.end_run.new.console c.end_run.result
          c.unmade.ensures c.end_run.ensures),
    ))

pub returns-in-Err-clause-ends : goal.returns-in-Err-clause-ends
returns-in-Err-clause-ends g c =
    inr (inr (
      c.in-Err.field-0,
      subst (λ (word : List ℕ). HoldsFiles {Refused = AllocError} g.F.WritesFiles word (Err c.in-Err.field-0) c.args.files.now c.hold_files.new.files)
          c.as_str-word.ensures.value c.in-Err.ensures,
      says_memory g.W.Write.contents g.E.Write.contents PrintsNothing c.args.console.now c.end_run-in-Err.new.console c.end_run-in-Err.result c.end_run-in-Err.ensures,
    ))

pub returns-in-Ok-Some-clause-told : goal.returns-in-Ok-Some-clause-told
returns-in-Ok-Some-clause-told g c =
    inr (
      c.in-Ok-Some.held,
      c.hold_files.new.files,
      subst (λ (word : List ℕ). HoldsFiles {Refused = AllocError} g.F.WritesFiles word (Ok (Some c.in-Ok-Some.held)) c.args.files.now c.hold_files.new.files) c.as_str-word.ensures.value
          (subst (λ (came : Result (Option UndoFiles) AllocError). HoldsFiles g.F.WritesFiles c.as_str-word.result.now came c.args.files.now c.hold_files.new.files)
          (c.in-Ok-Some.is ∙ ap (λ (held : Option UndoFiles). Ok held) c.in-Ok-Some.field-0-is) c.hold_files.ensures),
      c.undo_held.ensures.told,
    )

pub returns-in-Ok-Some-clause-untold : goal.returns-in-Ok-Some-clause-untold
returns-in-Ok-Some-clause-untold g c off =
    untold_undo_file g.P.Write.contents (g.F.TextFiles.gives c.hold_files.new.files) (string_bytes c.args.words.now.undo) c.args.progress.now c.undo_held.new.progress c.undo_held.ensures.told off
