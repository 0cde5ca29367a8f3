use Rattle.std.proofs.Common.{[], take}
use Rattle.app_revert.specs.Looks.{LooksEach}
use Rattle.app_revert.proofs.looking.look_each.Given as goal

abbrev pub invariant-loop-place : goal.invariant-loop-place
invariant-loop-place l = LooksEach l.agains [] (take l.place l.list.members) l.fn.eye l.fn.looked l.eye l.looked
