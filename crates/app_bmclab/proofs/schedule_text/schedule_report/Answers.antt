use Rattle.std.proofs.Common.{[]}
use Rattle.app_play.proofs.Plays.{says_play}
use Rattle.app_bmclab.specs.Writes.{WritesSchedule}
use Rattle.app_bmclab.proofs.schedule_text.schedule_report.Goals as goal

pub returns-in-Ok : goal.returns-in-Ok
returns-in-Ok c =
    says_play (WritesSchedule c.args.wanted) c.args.board.now c.args.plan.now [] c.written_report.result c.in-Ok.inputs
    c.in-Ok.ensures c.written_report.ensures.stream c.written_report.ensures.written
