use Rattle.std.specs.Prelude.{Result}
use Rattle.std.proofs.Common.{◌⊎◌, ℕ, List, Ok, sym, subst}
use Rattle.model_undo.specs.declared.phase.Phase.TheVariants.{Undone}
use Rattle.app_base.specs.Ending.{RunEnds}
use Rattle.app_journal.specs.declared.files.WriteFault.{WriteFault}
use Rattle.app_run.specs.declared.undoing.ListEnd.TheVariants.{Reverted}
use Rattle.app_run.specs.Ends.{PrintsNothing}
use Rattle.app_run.specs.Run.{EndsUnkept}
use Rattle.app_run.specs.Undo.{EndsListed}
use Rattle.app_run.proofs.undoing.say_undone.Goals as goal

pub returns-in-Ok : goal.returns-in-Ok
returns-in-Ok g c =
    subst (λ (gone : Result (Unit {0}) WriteFault). EndsListed g.W.Write.contents g.E.Write.contents c.args.words.now (Ok (Reverted c.args.came gone)) c.args.console.now c.say_reverted.new.console c.say_reverted.result)
    (sym c.in-Ok.is) c.say_reverted.ensures

pub returns-in-Err : goal.returns-in-Err
returns-in-Err g c =
    subst (λ (gone : Result (Unit {0}) WriteFault). EndsListed g.W.Write.contents g.E.Write.contents c.args.words.now (Ok (Reverted c.args.came gone)) c.args.console.now c.tell_unkept.new.console c.tell_unkept.result)
    (sym c.in-Err.is)
    (subst
    (λ (word : List ℕ).
    RunEnds g.W.Write.contents g.E.Write.contents PrintsNothing c.args.console.now c.tell_unkept.new.console c.tell_unkept.result
    ⊎ EndsUnkept g.W.Write.contents g.E.Write.contents Undone word c.args.console.now c.tell_unkept.new.console c.tell_unkept.result)
    c.as_str.ensures.value c.tell_unkept.ensures)
