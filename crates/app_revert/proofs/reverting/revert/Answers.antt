use Rattle.std.specs.Prelude.{Result, Option}
use Rattle.std.proofs.Common.{◌∙◌, ℕ, List, Ok, Some, None, ap, inl, inr, subst}
use Rattle.std.specs.declared.alloc.AllocError.{AllocError}
use Rattle.app_journal.specs.declared.undo_files.UndoFiles.{UndoFiles}
use Rattle.app_run.specs.Ends.{PrintsNothing}
use Rattle.app_run.proofs.Telling.{says_memory}
use Rattle.app_apply.specs.Guard.{HoldsOwn}
use Rattle.app_revert.proofs.reverting.revert.Goals as goal

pub returns-in-Ok-Some-clause-ends : goal.returns-in-Ok-Some-clause-ends
returns-in-Ok-Some-clause-ends g c =
    inl (
      c.in-Ok-Some.beside,
      c.hold_own.new.files,
      subst (λ (word : List ℕ). HoldsOwn {Refused = AllocError} g.F.WritesFiles word (Ok (Some c.in-Ok-Some.beside)) c.args.files.now c.hold_own.new.files) c.as_str.ensures.value
          (subst (λ (came : Result (Option UndoFiles) AllocError). HoldsOwn g.F.WritesFiles c.as_str.result.now came c.args.files.now c.hold_own.new.files)
          (c.in-Ok-Some.is ∙ ap (λ (held : Option UndoFiles). Ok held) c.in-Ok-Some.field-0-is) c.hold_own.ensures),
      c.revert_held.ensures.ends,
    )

pub returns-in-Ok-None-clause-ends : goal.returns-in-Ok-None-clause-ends
returns-in-Ok-None-clause-ends g c =
    inr (inl (
      subst (λ (word : List ℕ). HoldsOwn {Refused = AllocError} g.F.WritesFiles word (Ok None) c.args.files.now c.hold_own.new.files) c.as_str.ensures.value
          (subst (λ (came : Result (Option UndoFiles) AllocError). HoldsOwn g.F.WritesFiles c.as_str.result.now came c.args.files.now c.hold_own.new.files)
          (c.in-Ok-None.is ∙ ap (λ (held : Option UndoFiles). Ok held) c.in-Ok-None.field-0-is) c.hold_own.ensures),
      c.say_held.ensures,
    ))

pub returns-in-Err-clause-ends : goal.returns-in-Err-clause-ends
returns-in-Err-clause-ends g c =
    inr (inr (
      c.in-Err.ensures,
      says_memory g.W.Write.contents g.E.Write.contents PrintsNothing c.args.console.now c.end_run.new.console c.end_run.result c.end_run.ensures,
    ))
