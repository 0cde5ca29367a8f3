use Rattle.app_base.specs.Refusals.{is_loose}
use Rattle.app_pair.specs.PairRun.{SaysPair}
use Rattle.app_pair.proofs.Telling.{pair_said, said_unless}
use Rattle.app_pair.proofs.pairing.read_report.Goals as goal

pub returns-in-None : goal.returns-in-None
returns-in-None g c =
    said_unless (is_loose c.args.options.strict c.args.board.text.now c.args.plan.text.now c.args.inputs.plan) (SaysPair c.args.inputs c.args.options) c.paired_report.result
    (rw c.in-None.is at c.in_ok-report.ensures)
    (pair_said c.args.inputs c.args.options c.paired_report.result c.paired_report.ensures.stream c.paired_report.ensures.told)
