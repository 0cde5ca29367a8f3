use Rattle.std.proofs.Common.{◌≡◌, ◌++◌}
use Rattle.std.specs.List.{flat_map, range_with_len}
use Rattle.app_show.specs.Keys.{sensor_keys}
use Rattle.app_show.proofs.keys.push_sensors.Given as goal

abbrev pub invariant-loop-sensor : goal.invariant-loop-sensor
invariant-loop-sensor l = l.keys.items ≡ l.fn.keys.items ++ flat_map sensor_keys (range_with_len 0 l.sensor)
