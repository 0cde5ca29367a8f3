use Rattle.std.proofs.Common.{IfOk, string_bytes, sym, ◌∙◌, ap, subst}
use Rattle.app_play.specs.declared.run.Shown.{Shown}
use Rattle.app_play.specs.Restarted.{behind_last, tells_restarted}
use Rattle.app_play.proofs.RestartedRuns.{says_played, says_behind}
use Rattle.app_play.proofs.restarted.restarted_report.Goals as goal

pub returns-in-Some : goal.returns-in-Some
returns-in-Some c =
    says_behind c.args.places.now c.args.shown c.args.inputs c.place_refusal.result c.in-Some.place
    (ap (behind_last c.args.places.now) (sym c.as_slice.ensures) ∙ sym c.first_behind.ensures ∙ c.in-Some.is)
    c.place_refusal.ensures.stream c.place_refusal.ensures.text c.place_refusal.ensures.status

pub returns-in-Lines : goal.returns-in-Lines
returns-in-Lines c =
    says_played c.args.places.now c.args.shown c.args.inputs c.recounted_report.result
    (ap (behind_last c.args.places.now) (sym c.as_slice.ensures) ∙ sym c.first_behind.ensures ∙ c.in_default.is)
    c.recounted_report.ensures.stream
    (subst (λ (shown : Shown). IfOk c.recounted_report.result (λ report. tells_restarted c.args.places.now shown c.args.inputs (string_bytes report.text) report.status))
    (sym c.in-Lines.is) c.recounted_report.ensures.told)

pub returns-in-Chart : goal.returns-in-Chart
returns-in-Chart c =
    says_played c.args.places.now c.args.shown c.args.inputs c.drawn_restarts.result
    (ap (behind_last c.args.places.now) (sym c.as_slice.ensures) ∙ sym c.first_behind.ensures ∙ c.in_default.is)
    c.drawn_restarts.ensures.stream
    (subst (λ (shown : Shown). IfOk c.drawn_restarts.result (λ report. tells_restarted c.args.places.now shown c.args.inputs (string_bytes report.text) report.status))
    (sym c.in-Chart.is) c.drawn_restarts.ensures.drawn)
