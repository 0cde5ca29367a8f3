use Rattle.bmc_shared.proofs.Turning.{works}
use Rattle.bmc_shared.proofs.worker.work_once.Goals as goal

pub returns-clause-worked : goal.returns-clause-worked
returns-clause-worked g c =
    works g.L.Link c.turn-turned.result.end c.turn-turned.result.heard c.args.port.now c.turn-turned.new.port c.args.seat.now.calls.items c.turn-turned.new.seat.calls.items
    c.args.link.now c.turn-turned.new.link c.turn-turned.ensures.made

pub returns-clause-over : goal.returns-clause-over
returns-clause-over g c = (c.turn-turned.result.heard, c.turn-turned.ensures.made)
