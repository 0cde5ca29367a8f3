use Rattle.std.proofs.Common.{sym, ◌∙◌}
use Rattle.app_play.specs.Run.{tells_of}
use Rattle.app_play.proofs.Plays.{says_play}
use Rattle.app_play.proofs.RestartedRuns.{says_plain, says_restarted}
use Rattle.app_play.proofs.run.play_report.Goals as goal

pub returns-in-Ok : goal.returns-in-Ok
returns-in-Ok c =
    says_plain c.args.shown c.args.places.now c.args.board.now c.args.plan.now c.args.schedule.now c.shown_report.result (sym c.is_empty.ensures ∙ c.if-is_empty.true)
    (says_play (tells_of c.args.shown) c.args.board.now c.args.plan.now c.args.schedule.now c.shown_report.result c.in-Ok.inputs
    c.in-Ok.ensures c.shown_report.ensures.stream c.shown_report.ensures.told)

pub returns-in-Ok-2 : goal.returns-in-Ok-2
returns-in-Ok-2 c =
    says_restarted c.args.shown c.args.places.now c.args.board.now c.args.plan.now c.args.schedule.now c.restarted_report.result c.in-Ok.inputs (sym c.is_empty.ensures ∙ c.if-is_empty.false)
    c.in-Ok.ensures c.restarted_report.ensures
