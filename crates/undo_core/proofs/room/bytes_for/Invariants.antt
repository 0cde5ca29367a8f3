use Rattle.std.proofs.Common.{◌≡◌, ◌≤◌, ◌+◌, ◌*◌, drop}
use Rattle.undo_plans.specs.Requests.{most_undo_data}
use Rattle.undo_core.specs.Room.{data_for}
use Rattle.undo_core.proofs.room.bytes_for.Given as goal

abbrev pub invariant-loop-place : goal.invariant-loop-place
invariant-loop-place l = record {
  summed : l.bytes + data_for (drop l.place l.steps) ≡ data_for l.steps;
  small : l.bytes ≤ most_undo_data * l.place;
}
