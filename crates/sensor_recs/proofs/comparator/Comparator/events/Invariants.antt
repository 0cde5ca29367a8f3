use Rattle.std.proofs.Common.{◌≡◌, ◌≤◌, ◌*◌}
use Rattle.std.specs.List.{filter}
use Rattle.arrayvec.specs.ArrayVec.{array_vec_len}
use Rattle.sensor_recs.specs.Readings.{is_made, events_below}
use Rattle.sensor_recs.proofs.comparator.Comparator.events.Given as goal

abbrev pub invariant-loop-place : goal.invariant-loop-place
invariant-loop-place l = record {
  so_far : l.events.items ≡ filter (is_made l.self l.beyond l.reading) (events_below l.place);
  few : array_vec_len l.events ≤ 2 * l.place;
}
