use Rattle.app_base.specs.EndingLaws.{run_reports}
use Rattle.app_pair.specs.PairRun.{PrintsPair}
use Rattle.app_pair.proofs.pairing.pair_texts.Goals as goal

pub returns : goal.returns
returns g c =
    run_reports g.W.Write.contents g.E.Write.contents (PrintsPair c.args.board.text.now c.args.plan.text.now c.args.options) c.texts_report-report.result c.args.console.now
    c.end_run-status.new.console c.end_run-status.result c.texts_report-report.ensures c.end_run-status.ensures
