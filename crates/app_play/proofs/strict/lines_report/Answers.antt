use Rattle.std.proofs.Common.{ℕ, List, IfOk, ◌≡◌, subst}
use Rattle.text_lines.specs.declared.event.Event.{Event}
use Rattle.app_play.specs.Strict.{PlaysBy, ended_by}
use Rattle.app_play.proofs.Strictly.{recounts_report}
use Rattle.app_play.proofs.strict.lines_report.Goals as goal

pub returns-in-Ok-clause-told : goal.returns-in-Ok-clause-told
returns-in-Ok-clause-told c =
    let places = c.args.places.now in
    let inputs = c.args.inputs in
    let report = c.listed_report-report.result in
    let account = c.account_of-account.result in
    recounts_report c.args.options c.args.shown.0 c.args.shown.1 places inputs report c.played_by.result c.in-Ok.ended.played c.in-Ok.ended.stopped account c.in-Ok.ensures
    (subst (λ (events : List Event). PlaysBy inputs.file inputs.plan.steps inputs.plan.retries places events c.played_by.result) c.as_slice-events.ensures c.played_by.ensures.plays)
    c.account_of-account.ensures.told c.account_of-account.ensures.broken c.account_of-account.ensures.stopped
    (λ told tells. c.listed_report-report.ensures.text told inputs.file tells c.in_ok-list.ensures)
    (subst (λ (steps : ℕ). IfOk report (λ said. said.status ≡ ended_by c.args.options.strict steps account account.stopped)) c.len-steps.ensures.value c.listed_report-report.ensures.status)
