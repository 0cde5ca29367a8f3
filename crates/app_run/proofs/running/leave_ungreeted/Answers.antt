use Rattle.std.specs.Prelude.{Ok, Err}
use Rattle.std.proofs.Common.{refl, sym, subst}
use Rattle.model_lab.specs.Meaning.{lab_names}
use Rattle.app_base.specs.declared.ending.ReportFault.TheVariants.{Stopped}
use Rattle.app_run.specs.declared.greeting.GreetFault.{GreetFault}
use Rattle.app_run.specs.declared.running.Outcome.TheVariants.{Ungreeted}
use Rattle.app_run.specs.Outcome.{StaysGreeted}
use Rattle.app_run.proofs.running.leave_ungreeted.Goals as goal

pub returns-in-NoLink : goal.returns-in-NoLink
returns-in-NoLink c = subst (λ (fault : GreetFault). StaysGreeted c.args.ready.manager fault (Err Stopped)) (sym c.in-NoLink.is) refl

pub returns-in-Unanswered : goal.returns-in-Unanswered
returns-in-Unanswered c =
    subst (λ (fault : GreetFault). StaysGreeted c.args.ready.manager fault (Ok (Ungreeted c.phase-phase.result c.in-Unanswered.why))) (sym c.in-Unanswered.is)
    (c.phase-phase.result, refl, λ before shows. c.phase-phase.ensures lab_names before shows)
