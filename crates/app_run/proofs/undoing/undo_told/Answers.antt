use Rattle.std.proofs.Common.{[], rules, string_bytes}
use Rattle.app_run.specs.Told.{TellsResumed}
use Rattle.app_run.specs.Undo.{UndoesFrom}
use Rattle.app_run.proofs.Ways.{carried}
use Rattle.app_run.proofs.undoing.undo_told.Goals as goal

pub returns-clause-undoes : goal.returns-clause-undoes
returns-clause-undoes g c =
    carried (λ files. UndoesFrom g.F.WritesFiles.takes g.F.WritesFiles.renames c.args.beside.now c.args.resumed c.args.words.now.turns c.undo_over-came.result (string_bytes c.args.texts.last)
    c.args.files.now files) c.undo_over-came.new.watch.keeper.files.now _ (string_bytes c.undo_over-came.new.watch.keeper.texts.now.last, c.undo_over-came.ensures.undoes) (search rules)

pub returns-clause-told : goal.returns-clause-told
returns-clause-told g c =
    carried (TellsResumed g.P.Write.contents [] c.args.resumed.steps c.args.resumed.manager c.args.progress.now) c.end.new.self.teller.progress.now _
    (c.undo_over-came.new.watch.teller.progress.now, c.undo_over-came.ensures.told, c.end.ensures.ends) (search rules)
