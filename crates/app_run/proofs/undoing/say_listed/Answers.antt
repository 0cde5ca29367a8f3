use Rattle.std.specs.Prelude.{Result, Ok}
use Rattle.std.proofs.Common.{◌∙◌, ℕ, List, ap, string_bytes, sym, subst}
use Rattle.app_base.specs.Ending.{ReportTells}
use Rattle.app_base.specs.declared.ending.ReportFault.{ReportFault}
use Rattle.app_base.specs.EndingLaws.{run_reports}
use Rattle.app_run.specs.declared.undoing.ListEnd.{ListEnd}
use Rattle.app_run.specs.Ends.{SaysFile}
use Rattle.app_run.specs.Undo.{EndsListed, SaysOthers}
use Rattle.app_run.proofs.undoing.say_listed.Goals as goal

pub returns-in-Ok-Reverted : goal.returns-in-Ok-Reverted
returns-in-Ok-Reverted g c =
    subst (λ (end : Result ListEnd ReportFault). EndsListed g.W.Write.contents g.E.Write.contents c.args.words.now end c.args.console.now c.say_undone.new.console c.say_undone.result)
    (sym (c.in-Ok-Reverted.is ∙ ap (λ (end : ListEnd). Ok end) c.in-Ok-Reverted.field-0-is)) c.say_undone.ensures

pub returns-in-Ok-OtherNames : goal.returns-in-Ok-OtherNames
returns-in-Ok-OtherNames g c =
    subst (λ (end : Result ListEnd ReportFault). EndsListed g.W.Write.contents g.E.Write.contents c.args.words.now end c.args.console.now c.end_run.new.console c.end_run.result)
    (sym (c.in-Ok-OtherNames.is ∙ ap (λ (end : ListEnd). Ok end) c.in-Ok-OtherNames.field-0-is))
    (run_reports g.W.Write.contents g.E.Write.contents SaysOthers c.others_report.result c.args.console.now c.end_run.new.console c.end_run.result c.others_report.ensures c.end_run.ensures)

pub returns-in-Ok-Barred : goal.returns-in-Ok-Barred
returns-in-Ok-Barred g c =
    subst (λ (end : Result ListEnd ReportFault). EndsListed g.W.Write.contents g.E.Write.contents c.args.words.now end c.args.console.now c.end_run-in-Ok-Barred.new.console c.end_run-in-Ok-Barred.result)
    (sym (c.in-Ok-Barred.is ∙ ap (λ (end : ListEnd). Ok end) c.in-Ok-Barred.field-0-is))
    (run_reports g.W.Write.contents g.E.Write.contents (SaysFile (string_bytes c.args.words.now.undo)) c.unmade.result c.args.console.now c.end_run-in-Ok-Barred.new.console c.end_run-in-Ok-Barred.result
    (subst (λ (word : List ℕ). ReportTells (SaysFile word) c.unmade.result) c.as_str.ensures.value c.unmade.ensures) c.end_run-in-Ok-Barred.ensures)

pub returns-in-Err : goal.returns-in-Err
returns-in-Err g c =
    subst (λ (end : Result ListEnd ReportFault). EndsListed g.W.Write.contents g.E.Write.contents c.args.words.now end c.args.console.now c.end_run-in-Err.new.console c.end_run-in-Err.result)
    (sym c.in-Err.is) c.end_run-in-Err.ensures
