use Rattle.std.proofs.Common.{◌≡◌, ◌++◌, ℕ, sym, subst, add-one, arith}
use Rattle.std.specs.List.{flat_map, range_with_len}
use Rattle.app_show.specs.Keys.{sensor_keys}
use Rattle.app_show.proofs.Pushed.{keys_more}
use Rattle.app_show.proofs.keys.push_sensors.Goals as goal

pub loop-sensor-preserved : goal.loop-sensor-preserved
loop-sensor-preserved c =
    subst (λ (n : ℕ). c.extend_from_slice.new.self.items ≡ c.args.keys.now.items ++ flat_map sensor_keys (range_with_len 0 n)) (sym (add-one c.loop-sensor.sensor))
    (keys_more sensor_keys c.args.keys.now.items c.loop-sensor.keys.items c.extend_from_slice.new.self.items 0 c.loop-sensor.sensor c.loop-sensor.sensor c.loop-sensor.invariant
    c.in_ok-extend_from_slice.ensures.items (omega arith))
