use Rattle.app_pair.proofs.Telling.{pair_told}
use Rattle.app_pair.proofs.pairing.texts_report.Goals as goal

pub returns-in-Ok : goal.returns-in-Ok
returns-in-Ok g c =
    pair_told c.args.board.text.now c.args.plan.text.now c.args.options c.in-Ok.inputs c.read_report.result c.in-Ok.ensures c.read_report.ensures
