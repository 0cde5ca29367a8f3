use Rattle.std.specs.Prelude.{Result}
use Rattle.std.proofs.Common.{Ok, Err, List, ℕ, inr, subst, sym, string_bytes}
use Rattle.app_base.specs.declared.ending.ReportFault.{ReportFault}
use Rattle.app_journal.specs.Beside.{PutsPart}
use Rattle.app_run.specs.declared.undoing.ListEnd.{ListEnd}
use Rattle.app_run.specs.Undo.{MadeEnds}
use Rattle.app_run.proofs.undoing.undo_made.Goals as goal

pub returns-in-Ok-undo_told-clause-ends : goal.returns-in-Ok-undo_told-clause-ends
returns-in-Ok-undo_told-clause-ends g c =
    subst (λ (came : Result ListEnd ReportFault). MadeEnds g.F.WritesFiles c.args.beside.now c.args.resumed c.args.words.now.turns came c.args.files.now c.remove_undone-gone.new.files)
    (sym c.listed.ensures) (
      string_bytes c.in-Ok.texts.last,
      c.put.new.files,
      c.undo_told.new.files,
      (
        c.in-Ok.ensures,
        subst (λ (put : List ℕ). PutsPart g.F.WritesFiles.takes g.F.WritesFiles.renames c.args.beside.now put c.args.files.now (Ok tt) c.put.new.files)
            c.as_str.ensures.value c.in_default-put.ensures,
      ),
      c.in-Ok-undo_told.ensures.undoes,
      c.remove_undone-gone.ensures,
    )

pub returns-in-Err-clause-ends : goal.returns-in-Err-clause-ends
returns-in-Err-clause-ends g c = (
  string_bytes c.in-Ok.texts.last,
  c.in-Err.field-0,
  (
    c.in-Ok.ensures,
    subst (λ (put : List ℕ). PutsPart g.F.WritesFiles.takes g.F.WritesFiles.renames c.args.beside.now put c.args.files.now (Err c.in-Err.field-0) c.put.new.files)
        c.as_str.ensures.value c.in-Err.ensures,
  ),
)

pub returns-in-Err-undo_told-clause-ends : goal.returns-in-Err-undo_told-clause-ends
returns-in-Err-undo_told-clause-ends g c =
    inr (
      string_bytes c.in-Ok.texts.last,
      c.put.new.files,
      (
        c.in-Ok.ensures,
        subst (λ (put : List ℕ). PutsPart g.F.WritesFiles.takes g.F.WritesFiles.renames c.args.beside.now put c.args.files.now (Ok tt) c.put.new.files)
            c.as_str.ensures.value c.in_default-put.ensures,
      ),
      c.in-Err-undo_told.ensures.undoes,
    )
