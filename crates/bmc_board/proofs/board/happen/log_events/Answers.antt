use Rattle.std.proofs.Common.{◌∙◌}
use Rattle.sensor_recs.specs.Taken.{log_record}
use Rattle.bmc_board.proofs.LogFacts.{add_item}
use Rattle.bmc_board.proofs.board.happen.log_events.Goals as goal

pub loop-event-preserved : goal.loop-event-preserved
loop-event-preserved c =
    let to = log_record c.args.sensor.now.sensor_type c.args.sensor.now.number c.args.compared.now c.args.reading in
    c.add.ensures.after ∙ add_item to c.args.log.now c.loop-event.log c.as_slice-event-items.result.now c.loop-event.event-index _ _ c.loop-event.invariant c.log_record-record.ensures c.loop-event-test.true
