use Rattle.std.proofs.Common.{IfOk, string_bytes, subst, sym}
use Rattle.app_play.specs.declared.run.Shown.{Shown}
use Rattle.app_play.specs.Run.{tells_of}
use Rattle.app_play.proofs.run.shown_report.Goals as goal

pub returns-in-Lines-clause-told : goal.returns-in-Lines-clause-told
returns-in-Lines-clause-told c =
    subst (λ (shown : Shown). IfOk c.played_report.result (λ report. tells_of shown c.args.inputs (string_bytes report.text) report.status))
    (sym c.in-Lines.is) c.played_report.ensures.told

pub returns-in-Chart-clause-told : goal.returns-in-Chart-clause-told
returns-in-Chart-clause-told c =
    subst (λ (shown : Shown). IfOk c.drawn_report.result (λ report. tells_of shown c.args.inputs (string_bytes report.text) report.status))
    (sym c.in-Chart.is) c.drawn_report.ensures.drawn
