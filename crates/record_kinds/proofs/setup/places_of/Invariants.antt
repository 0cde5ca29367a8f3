use Rattle.std.proofs.Common.{◌≡◌, ℕ, ◌<◌, length, take, slice_index}
use Rattle.std.specs.List.{slice_get}
use Rattle.record_kinds.specs.Boards.{sensor_at}
use Rattle.record_kinds.proofs.setup.places_of.Given as goal

abbrev pub invariant-loop-place : goal.invariant-loop-place
invariant-loop-place l = record {
  all : length l.places ≡ 256;
  found : (number : ℕ) → number < 256 → slice_get l.sensors (slice_index l.places number) ≡ sensor_at (take l.place l.sensors) number;
}
