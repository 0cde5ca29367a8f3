use Rattle.std.proofs.Common.{Bool, ap, inl, inr, string_bytes, subst}
use Rattle.model_undo.specs.declared.call.Call.TheVariants.{Undo}
use Rattle.app_journal.specs.declared.undo_files.UndoFiles.{UndoFiles}
use Rattle.app_run.specs.Reverting.{GoesOn}
use Rattle.app_run.specs.Told.{MayLookOn}
use Rattle.app_run.proofs.reverting.revert.Goals as goal

pub returns-in-Ok-clause-reverts : goal.returns-in-Ok-clause-reverts
returns-in-Ok-clause-reverts g c =
    let goes = subst (λ (beside : UndoFiles). GoesOn g.F.WritesFiles.takes g.F.WritesFiles.renames beside c.greets_behind-greet.result c.args.words.now.turns c.recall_on.new.manager
    c.in-Ok.end c.go_on.result (string_bytes c.recall_on.new.watch.keeper.texts.now.last) (string_bytes c.go_on.new.watch.keeper.texts.now.last)
    c.recall_on.new.watch.keeper.files.now c.go_on.new.watch.keeper.files.now) (ap (λ b. b.now) c.in-Ok.ensures.same_words) c.go_on.ensures.goes in
    inl (
      c.recall_on.new.manager,
      c.in-Ok.end,
      string_bytes c.recall_on.new.watch.keeper.texts.now.last,
      c.recall_on.new.watch.keeper.files.now,
      c.in-Ok.ensures.runs,
      subst (λ (greet : Bool). GoesOn g.F.WritesFiles.takes g.F.WritesFiles.renames c.args.watch.now.keeper.beside.now greet c.args.words.now.turns c.recall_on.new.manager c.in-Ok.end
          c.go_on.result (string_bytes c.recall_on.new.watch.keeper.texts.now.last) (string_bytes c.go_on.new.watch.keeper.texts.now.last)
          c.recall_on.new.watch.keeper.files.now c.go_on.new.watch.keeper.files.now) c.greets_behind-greet.ensures goes,
    )

pub returns-in-Ok-clause-told : goal.returns-in-Ok-clause-told
returns-in-Ok-clause-told g c =
    inr (
      c.recall_on.new.manager,
      c.recall_on.new.watch.teller.progress.now,
      c.in-Ok.ensures.told,
      subst (λ course. MayLookOn g.P.Write.contents course.kinds.now course.steps Undo c.recall_on.new.manager c.recall_on.new.watch.teller.progress.now
          c.go_on.new.watch.teller.progress.now) c.in-Ok.ensures.same_course c.go_on.ensures.told,
    )
