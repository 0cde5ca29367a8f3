use Rattle.std.specs.List.{flat_map, range_with_len}
use Rattle.app_show.specs.Keys.{channel_keys, channels, own_keys, sensor_count, sensor_keys}
use Rattle.app_show.proofs.Pushed.{three_parts}
use Rattle.app_show.proofs.keys.numbered_keys.Goals as goal

pub returns : goal.returns
returns c =
    three_parts c.new-keys.result.items c.push_own.new.keys.items c.push_sensors.new.keys.items c.push_channels.new.keys.items own_keys
    (flat_map sensor_keys (range_with_len 0 sensor_count)) (flat_map channel_keys channels) c.new-keys.ensures.items c.in_ok-push_own.ensures c.in_ok-push_sensors.ensures
    c.in_ok-push_channels.ensures
