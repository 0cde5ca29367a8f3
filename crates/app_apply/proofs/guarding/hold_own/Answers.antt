use Rattle.std.proofs.Common.{Option, inr, subst}
use Rattle.app_journal.specs.declared.undo_files.UndoFiles.{UndoFiles}
use Rattle.app_apply.specs.Guard.{LeadsToOwn}
use Rattle.app_apply.proofs.guarding.hold_own.Goals as goal

pub returns-in-Err : goal.returns-in-Err
returns-in-Err g c =
    inr (
      c.in-Some.beside,
      c.in-Err.field-0,
      subst (λ (found : Option UndoFiles). LeadsToOwn (g.F.WritesFiles.leads c.args.files.now) c.args.word.now found) c.in-Some.is c.in_ok-beside.ensures,
      c.in-Err.ensures,
    )
