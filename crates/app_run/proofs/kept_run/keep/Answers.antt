use Rattle.std.specs.Prelude.{Result}
use Rattle.std.proofs.Common.{◌∙◌, inl, inr, refl, subst, sym}
use Rattle.text_lines.specs.UndoText.{text_of}
use Rattle.model_lab.specs.Meaning.{lab_names}
use Rattle.app_journal.specs.declared.files.WriteFault.{WriteFault}
use Rattle.app_journal.specs.Beside.{GivesUndo}
use Rattle.app_run.specs.Driven.{is_over}
use Rattle.app_run.proofs.Keeping.{kept_last}
use Rattle.app_run.proofs.kept_run.keep.Goals as goal

pub returns-in-Ok-Ok-clause-kept : goal.returns-in-Ok-Ok-clause-kept
returns-in-Ok-Ok-clause-kept g c =
    let text = text_of c.undo_list.result.now in
    kept_last g.F.WritesFiles c.args.ran.now.manager (is_over c.args.ran.now.phase) c.args.beside.now c.undo_list.result.now
    c.args.files.now c.remove_part.new.files c.remove_part.result (sym c.is_over.ensures ∙ c.if-not-is_over.false) (λ s shows. c.undo_list.ensures lab_names s shows)
    (inl (
      c.put_undo.new.files,
      subst (λ (a : Result (Unit {0}) WriteFault). GivesUndo g.F.WritesFiles c.args.beside.now text c.args.files.now a c.put_undo.new.files)
          c.in-Ok-Ok.field-0-is c.in-Ok-Ok.ensures.put,
      c.remove_part.ensures,
    ))

pub returns-in-Ok-Err-clause-kept : goal.returns-in-Ok-Err-clause-kept
returns-in-Ok-Err-clause-kept g c =
    let text = text_of c.undo_list.result.now in
    kept_last g.F.WritesFiles c.args.ran.now.manager (is_over c.args.ran.now.phase) c.args.beside.now c.undo_list.result.now
    c.args.files.now c.put_undo.new.files _ (sym c.is_over.ensures ∙ c.if-not-is_over.false) (λ s shows. c.undo_list.ensures lab_names s shows)
    (inr (
      c.in-Ok-Err.why,
      refl,
      subst (λ (a : Result (Unit {0}) WriteFault). GivesUndo g.F.WritesFiles c.args.beside.now text c.args.files.now a c.put_undo.new.files)
          c.in-Ok-Err.field-0-is c.in-Ok-Err.ensures.put,
    ))
