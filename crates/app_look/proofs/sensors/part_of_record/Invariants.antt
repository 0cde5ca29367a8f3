use Rattle.app_look.specs.Asking.{AsksTables}
use Rattle.app_look.specs.SensorRecords.{AreReservedAnew, cursor_at}
use Rattle.app_look.proofs.sensors.part_of_record.Given as goal

abbrev pub invariant-loop : goal.invariant-loop
invariant-loop l = record {
  tables : AsksTables l.fn.session l.session;
  reserved : AreReservedAnew l.counter l.fn.offset l.fn.count (cursor_at l.fn.session l.fn.walk) (cursor_at l.session l.walk);
}
