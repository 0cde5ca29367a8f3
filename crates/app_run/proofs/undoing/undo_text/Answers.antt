use Rattle.std.proofs.Common.{inl, inr, refl}
use Rattle.app_base.specs.EndingLaws.{run_reports}
use Rattle.app_run.specs.Undo.{SaysLine}
use Rattle.app_run.proofs.Listing.{fault_of}
use Rattle.app_run.proofs.Ways.{told_of_journal}
use Rattle.app_run.proofs.undoing.undo_text.Goals as goal

pub returns-then-is_journal-clause-ends : goal.returns-then-is_journal-clause-ends
returns-then-is_journal-clause-ends g c = inl (c.is_journal.ensures.0 c.if-is_journal.true, c.undo_journal.ensures.ends)

pub returns-in-Ok-clause-ends : goal.returns-in-Ok-clause-ends
returns-in-Ok-clause-ends g c =
    inr (
      (λ is. cc (c.is_journal.ensures.1 is)),
      inl (
        c.in-Ok.list,
        c.undo_list-end.result,
        c.in-Ok.ensures.list,
        c.undo_list-end.ensures.ends,
        c.say_listed.ensures,
      ),
    )

pub returns-in-Err-clause-ends : goal.returns-in-Err-clause-ends
returns-in-Err-clause-ends g c =
    inr (
      (λ is. cc (c.is_journal.ensures.1 is)),
      inr (
        c.in-Err.why,
        fault_of c.in-Err.why c.args.text.now c.in-Err.ensures.fault,
        refl,
        run_reports g.W.Write.contents g.E.Write.contents (SaysLine c.in-Err.why) c.line_report.result c.args.console.now c.end_run.new.console c.end_run.result
            c.line_report.ensures c.end_run.ensures,
      ),
    )

pub returns-then-is_journal-clause-told : goal.returns-then-is_journal-clause-told
returns-then-is_journal-clause-told g c = told_of_journal g.P.Write.contents c.args.text.now c.args.progress.now c.undo_journal.new.progress c.undo_journal.ensures.told

pub returns-in-Ok-clause-told : goal.returns-in-Ok-clause-told
returns-in-Ok-clause-told g c = inr (inl (c.in-Ok.list, c.in-Ok.ensures.list, c.undo_list-end.ensures.told))
