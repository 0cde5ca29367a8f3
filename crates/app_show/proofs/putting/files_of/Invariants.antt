use Rattle.std.proofs.Common.{◌≡◌, length}
use Rattle.app_show.specs.Putting.{AreFilesFrom}
use Rattle.app_show.proofs.putting.files_of.Given as goal

abbrev pub invariant-loop-place : goal.invariant-loop-place
invariant-loop-place l = record {
  named : AreFilesFrom l.stem l.count 0 l.all.items;
  many : length l.all.items ≡ l.place;
}
