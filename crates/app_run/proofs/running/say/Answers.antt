use Rattle.std.proofs.Common.{ℕ, List, Ok, string_bytes, sym, subst}
use Rattle.app_base.specs.Ending.{ReportTells}
use Rattle.app_base.specs.EndingLaws.{run_reports}
use Rattle.app_run.specs.declared.running.Outcome.{Outcome}
use Rattle.app_run.specs.Ends.{SaysFile}
use Rattle.app_run.specs.Run.{EndsBy}
use Rattle.app_run.proofs.running.say.Goals as goal

pub returns-in-Ran : goal.returns-in-Ran
returns-in-Ran g c =
    subst (λ (outcome : Outcome). EndsBy g.W.Write.contents g.E.Write.contents c.args.words.now (Ok outcome) c.args.console.now c.say_ran.new.console c.say_ran.result)
    (sym c.in-Ran.is) c.say_ran.ensures

pub returns-in-Unmade : goal.returns-in-Unmade
returns-in-Unmade g c =
    subst (λ (outcome : Outcome). EndsBy g.W.Write.contents g.E.Write.contents c.args.words.now (Ok outcome) c.args.console.now c.end_run.new.console c.end_run.result)
    (sym c.in-Unmade.is)
    (run_reports g.W.Write.contents g.E.Write.contents (SaysFile (string_bytes c.args.words.now.undo)) c.unmade.result c.args.console.now c.end_run.new.console c.end_run.result
    (subst (λ (word : List ℕ). ReportTells (SaysFile word) c.unmade.result) c.as_str.ensures.value c.unmade.ensures) c.end_run.ensures)

pub returns-in-Ungreeted : goal.returns-in-Ungreeted
returns-in-Ungreeted g c =
    subst (λ (outcome : Outcome). EndsBy g.W.Write.contents g.E.Write.contents c.args.words.now (Ok outcome) c.args.console.now c.tell_ungreeted.new.console c.tell_ungreeted.result)
    (sym c.in-Ungreeted.is) c.tell_ungreeted.ensures
