use Rattle.std.proofs.Common.{take}
use Rattle.app_show.specs.Putting.{AreFree}
use Rattle.app_show.proofs.putting.first_taken.Given as goal

abbrev pub invariant-loop-place : goal.invariant-loop-place
invariant-loop-place g l = AreFree (g.F.WritesFiles.leads l.files) (take l.place l.all)
