use Rattle.std.proofs.Common.{List, subst}
use Rattle.text_lines.specs.declared.event.Event.{Event}
use Rattle.lab_play.specs.Ends.{PlayResult}
use Rattle.app_play.proofs.Plays.{PlaysOf, recounts}
use Rattle.app_play.proofs.run.played_report.Goals as goal

pub returns-in-Ok-clause-told : goal.returns-in-Ok-clause-told
returns-in-Ok-clause-told c =
    let given : PlaysOf c.args.inputs c.play.result =
    subst (λ (events : List Event). PlayResult c.args.inputs.file c.args.inputs.plan.steps c.args.inputs.plan.retries events c.play.result) c.as_slice.ensures c.play.ensures in
    recounts c.args.frames c.args.premises c.args.inputs c.account_report-report.result c.play.result c.in-Ok.ended.played c.in-Ok.ended.stopped c.account_of-account.result c.in-Ok.ensures given
    c.account_of-account.ensures.told c.account_of-account.ensures.broken c.account_of-account.ensures.stopped
    c.account_report-report.ensures.text c.account_report-report.ensures.status
