use Rattle.std.proofs.Common.{◌≡◌, true}
use Rattle.app_look.specs.Asking.{AsksTables}
use Rattle.app_look.specs.SensorRecords.{cursor_at, wants_sensors}
use Rattle.app_look.proofs.SensorRecords.{GoesBehind}
use Rattle.app_look.proofs.sensors.read_sensors.Given as goal

-- parts of tables alone were asked for, and so many records were read
abbrev pub invariant-loop : goal.invariant-loop
invariant-loop l = record {
  tables : AsksTables l.fn.session l.session;
  wants : wants_sensors l.fn.names ≡ true;
  goes : GoesBehind l.fn.session l.fn.names l.counter (cursor_at l.session l.walk) l.names;
}
