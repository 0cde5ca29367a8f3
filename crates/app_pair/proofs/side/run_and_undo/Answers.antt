use Rattle.bmc_ports.specs.Driving.{both}
use Rattle.app_run.specs.Driven.{opened_with}
use Rattle.app_run.proofs.Driving.{fresh}
use Rattle.app_pair.proofs.Telling.{ran_and_undid}
use Rattle.app_pair.proofs.side.run_and_undo.Goals as goal

pub returns : goal.returns
returns c plan ready =
    ran_and_undid plan c.args.turns c.run_plan-run.new.manager c.undo_plan-undone.new.manager c.run_plan-run.result c.undo_plan-undone.result
    (both c.args.driver.ends.ipmb.counts c.args.driver.ends.smbus.counts) (both c.run_plan-run.new.ipmb.counts c.run_plan-run.new.smbus.counts)
    (both c.undo_plan-undone.new.ipmb.counts c.undo_plan-undone.new.smbus.counts)
    (fresh _ _ ready.ipmb ready.smbus) (c.run_plan-run.ensures (opened_with plan) ready.shown) c.undo_plan-undone.ensures
