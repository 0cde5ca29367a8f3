use Rattle.std.proofs.Common.{◌∙◌, inr, string_bytes, subst, sym}
use Rattle.app_run.specs.declared.greeting.Greetings.{Greetings}
use Rattle.app_run.specs.Reverting.{Undoes}
use Rattle.model_lab.specs.Meaning.{lab_names}
use Rattle.app_run.proofs.reverting.go_on_in.Goals as goal

pub returns-clause-goes : goal.returns-clause-goes
returns-clause-goes g c =
    inr (
      sym c.is_over.ensures ∙ c.if-not-is_over.false,
      (
        c.undo_list.result.now,
        (λ s shows. c.undo_list.ensures lab_names s shows),
        subst (λ (greetings : Greetings). Undoes g.F.WritesFiles.takes g.F.WritesFiles.renames c.args.watch.now.keeper.beside.now greetings c.args.words.now.turns c.args.manager.now c.args.phase
            c.undo_over.result (string_bytes c.args.watch.now.keeper.texts.now.last) (string_bytes c.undo_over.new.watch.keeper.texts.now.last) c.args.watch.now.keeper.files.now c.undo_over.new.watch.keeper.files.now) c.before_undo-greetings.ensures c.undo_over.ensures.undoes,
      ),
    )
