use Rattle.std.proofs.Common.{List, subst}
use Rattle.text_lines.specs.declared.event.Event.{Event}
use Rattle.lab_play.specs.Restarting.{RestartedResult}
use Rattle.app_play.proofs.RestartedRuns.{RestartedOf, recounts}
use Rattle.app_play.proofs.restarted.recounted_report.Goals as goal

pub returns-in-Ok-clause-told : goal.returns-in-Ok-clause-told
returns-in-Ok-clause-told c =
    let places = c.args.places.now in
    let given : RestartedOf places c.args.inputs c.play_restarting.result =
    subst (λ (events : List Event). RestartedResult c.args.inputs.file c.args.inputs.plan.steps c.args.inputs.plan.retries places events c.play_restarting.result) c.as_slice-events.ensures c.play_restarting.ensures.plays in
    recounts places c.args.frames c.args.premises c.args.inputs c.account_report-report.result c.play_restarting.result c.in-Ok.ended.played c.in-Ok.ended.stopped c.account_of-account.result c.in-Ok.ensures given
    c.account_of-account.ensures.told c.account_of-account.ensures.broken c.account_of-account.ensures.stopped
    c.account_report-report.ensures.text c.account_report-report.ensures.status
