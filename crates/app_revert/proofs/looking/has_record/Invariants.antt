use Rattle.std.proofs.Common.{take}
use Rattle.app_revert.specs.Looks.{IsAmong}
use Rattle.app_revert.proofs.looking.has_record.Given as goal

abbrev pub invariant-loop-place : goal.invariant-loop-place
invariant-loop-place l = ¬ IsAmong l.key (take l.place l.requests.members)
