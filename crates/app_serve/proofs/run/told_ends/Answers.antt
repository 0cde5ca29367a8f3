use Rattle.app_base.specs.EndingLaws.{run_reports}
use Rattle.app_serve.specs.Run.{SaysUnopened}
use Rattle.app_serve.proofs.Serving.{nothing_unopened}
use Rattle.app_serve.proofs.run.told_ends.Goals as goal

pub returns-in-Ok-tell_ports-clause-told : goal.returns-in-Ok-tell_ports-clause-told
returns-in-Ok-tell_ports-clause-told g c =
    (c.in-Ok.ends.ipmb.port, c.in-Ok.ends.smbus.port, c.in-Ok.ensures.ipmb, c.in-Ok.ensures.smbus, c.in-Ok-tell_ports.ensures.told)

pub returns-in-Err-tell_ports-clause-untold : goal.returns-in-Err-tell_ports-clause-untold
returns-in-Err-tell_ports-clause-untold g c =
    nothing_unopened g.W.Write.contents g.E.Write.contents c.args.words.now c.args.console.now c.tell_ports.new.console c.in-Err-tell_ports.status c.in-Err-tell_ports.ensures.untold

pub returns-in-Err-clause-untold : goal.returns-in-Err-clause-untold
returns-in-Err-clause-untold g c =
    run_reports g.W.Write.contents g.E.Write.contents (SaysUnopened c.args.words.now) c.unopened_report.result c.args.console.now c.finish.new.console c.finish.result
    (c.unopened_report.ensures c.args.words.now c.in-Err.ensures.fault) c.finish.ensures
