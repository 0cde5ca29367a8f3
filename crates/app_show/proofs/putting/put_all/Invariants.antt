use Rattle.std.proofs.Common.{take}
use Rattle.app_show.specs.Putting.{PutsAll}
use Rattle.app_show.proofs.putting.put_all.Given as goal

abbrev pub invariant-loop-place : goal.invariant-loop-place
invariant-loop-place g l = PutsAll g.F.WritesFiles (take l.place l.all) (take l.place l.texts) l.fn.files l.files
