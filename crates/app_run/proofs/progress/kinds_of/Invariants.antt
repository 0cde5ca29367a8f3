use Rattle.std.proofs.Common.{◌≡◌, map, take}
use Rattle.plan_file.specs.Kinds.{kind_of}
use Rattle.app_run.proofs.progress.kinds_of.Given as goal

abbrev pub invariant-loop-place : goal.invariant-loop-place
invariant-loop-place l = record { seen : l.kinds.items ≡ map kind_of (take l.place l.steps) }
