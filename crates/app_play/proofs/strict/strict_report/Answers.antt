use Rattle.app_play.proofs.Strictly.{says_asked}
use Rattle.app_play.proofs.strict.strict_report.Goals as goal

pub returns-in-Ok : goal.returns-in-Ok
returns-in-Ok c =
    says_asked c.args.options c.args.shown c.args.places.now c.args.texts.board.text.now c.args.texts.plan.text.now c.args.texts.schedule.now c.read_report.result c.in-Ok.inputs
    c.in-Ok.ensures c.read_report.ensures
