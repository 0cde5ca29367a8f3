use Rattle.std.proofs.Common.{◌≡◌, map, take}
use Rattle.sensor_recs.specs.Taken.{log_record}
use Rattle.bmc_board.specs.Sensing.{after_all}
use Rattle.bmc_board.proofs.board.happen.log_events.Given as goal

abbrev pub invariant-loop-event : goal.invariant-loop-event
invariant-loop-event l = l.log ≡ after_all l.initial.log (map (log_record l.sensor.sensor_type l.sensor.number l.compared l.reading) (take l.event-index l.event-items))
