use Rattle.std.proofs.Common.{List, inl, subst, rules, string_bytes}
use Rattle.plan_file.specs.declared.kind.Kind.{Kind}
use Rattle.undo_plans.specs.Journals.{kept_of}
use Rattle.app_run.specs.Reverting.{RevertsText}
use Rattle.app_run.specs.Told.{MayTellRevert, TellsRevert}
use Rattle.app_run.proofs.Ways.{carried, told_of_kept}
use Rattle.app_run.proofs.reverting.revert_told.Goals as goal

pub returns-clause-told : goal.returns-clause-told
returns-clause-told g c =
    let old = c.args.progress.now in
    let new = c.end.new.self.teller.progress.now in
    carried (MayTellRevert g.P.Write.contents c.args.manager old) new _
    (told_of_kept g.P.Write.contents c.args.manager (kept_of c.journal-journal.result) c.in-Ok.kinds.items c.steps_of-steps.result old new c.journal-journal.ensures.kept c.in-Ok.ensures
    c.steps_of-steps.ensures
    (subst (λ (kinds : List Kind). TellsRevert g.P.Write.contents kinds c.steps_of-steps.result c.args.manager old new) c.as_slice.ensures.value
    (c.revert-came.new.watch.teller.progress.now, c.revert-came.ensures.told, c.end.ensures.ends)))
    (search rules)

pub returns-clause-reverts : goal.returns-clause-reverts
returns-clause-reverts g c =
    inl (carried (λ files. RevertsText g.F.WritesFiles.takes g.F.WritesFiles.renames c.args.kept.beside c.args.words.now c.args.manager c.revert-came.result (string_bytes c.args.kept.texts.last)
    c.args.files.now files) c.revert-came.new.watch.keeper.files.now _ (string_bytes c.revert-came.new.watch.keeper.texts.now.last, c.revert-came.ensures.reverts) (search rules))
