use Rattle.std.specs.Prelude.{Result}
use Rattle.std.proofs.Common.{◌⊎◌, ℕ, List, Ok, sym, subst}
use Rattle.app_base.specs.Ending.{RunEnds}
use Rattle.app_base.specs.EndingLaws.{run_reports}
use Rattle.app_journal.specs.declared.files.WriteFault.{WriteFault}
use Rattle.app_run.specs.declared.running.Outcome.TheVariants.{Ran}
use Rattle.app_run.specs.Ends.{PrintsNothing, SaysPhase}
use Rattle.app_run.specs.Run.{EndsBy, EndsUnkept}
use Rattle.app_run.specs.Strict.{ran_status}
use Rattle.app_run.proofs.running.say_ran.Goals as goal

pub returns-in-Ok : goal.returns-in-Ok
returns-in-Ok g c =
    subst (λ (kept : Result (Unit {0}) WriteFault). EndsBy g.W.Write.contents g.E.Write.contents c.args.words.now (Ok (Ran c.args.phase kept)) c.args.console.now c.end_run.new.console c.end_run.result)
    (sym c.in-Ok.is)
    (run_reports g.W.Write.contents g.E.Write.contents (SaysPhase c.args.phase (ran_status c.args.words.now.strict c.args.phase)) c.reached.result c.args.console.now c.end_run.new.console c.end_run.result
    c.reached.ensures c.end_run.ensures)

pub returns-in-Err : goal.returns-in-Err
returns-in-Err g c =
    subst (λ (kept : Result (Unit {0}) WriteFault). EndsBy g.W.Write.contents g.E.Write.contents c.args.words.now (Ok (Ran c.args.phase kept)) c.args.console.now c.tell_unkept.new.console c.tell_unkept.result)
    (sym c.in-Err.is)
    (subst
    (λ (word : List ℕ).
    RunEnds g.W.Write.contents g.E.Write.contents PrintsNothing c.args.console.now c.tell_unkept.new.console c.tell_unkept.result
    ⊎ EndsUnkept g.W.Write.contents g.E.Write.contents c.args.phase word c.args.console.now c.tell_unkept.new.console c.tell_unkept.result)
    c.as_str.ensures.value c.tell_unkept.ensures)
